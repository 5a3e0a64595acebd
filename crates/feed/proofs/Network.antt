-- The inserter is an adapter: what it sends are the notices of one, a slave that takes one has its label, and demand 3 holds of every slave that hears it.
use mathlib.Core.Path.{◌≡◌, refl, sym, ap, ap₂, ◌∙◌}
use mathlib.Core.Bool.{true, cond}
use mathlib.Core.List.{List, [], ◌∷◌}
use mathlib.Core.Option.{some}
use Prim.Native.Nat.{ℕ, zero, suc, ◌+◌, ◌/◌, ◌<◌}
use native.Mathlib.Nat.{mod-lt, mod-eq_of_lt}
use native.Mathlib.Omega.{arith}
use lib.Dec.{eqb}
use lib.ListN.{length}
use Rattle.std.proofs.lemmas.Bool.{ne_eqb, eqb-true}
use Rattle.wire.specs.Standards.{longest_addressing}
use Rattle.cadence.specs.Cadence.{admits}
use Rattle.cadence.specs.Label.{label_of, pointer_of, label_at, next_label}
use Rattle.cadence.proofs.Labels.{own_inverse, next_place}
use Rattle.cadence.proofs.Lengths.{admitted_length, length_range}
use Rattle.notice.specs.Mip.{pointer, synchronization_time_stamp, maximum_delay}
use Rattle.notice.specs.declared.Notice.{Notice}
use Rattle.notice.proofs.Sound.{reads_sound}
use Rattle.state.specs.declared.Board.{Board}
use Rattle.state.specs.declared.Slave.{Slave}
use Rattle.state.proofs.Sound.{admitted, profile_small}
use Rattle.judging.specs.Judge.{unless_refused, arrival_refusal}
use Rattle.judging.specs.Judgement.{Judgement, Lost, Refuse, Counts, Takes}
use Rattle.inserter.specs.declared.Settings.{Settings}
use Rattle.inserter.specs.declared.Inserter.{Inserter}
use Rattle.inserter.specs.Settings.{sound, begun}
use Rattle.inserter.specs.Packet.{given_refusal, progress_after, sent, unless_kept}
use Rattle.inserter.proofs.Judged.{accepted}
use Rattle.inserter.proofs.Kept.{begun_sound, sent_sound}
use Rattle.run.specs.Book.{Form, packet, numbers, Call, at, gap, judged, Book, closed, verdict_at, enter_call}
use Rattle.run.specs.Late.{takes}
use Rattle.run.specs.Run.{hear, Genuine, GenuineCall, AllGenuine, Run}
use Rattle.run.proofs.Run.{demand_3}
use Rattle.feed.specs.Calls.{Item, inserter_after, packets, came, sts_at, packet_at}
use Rattle.feed.specs.MegaFrames.{is_mip}
use Rattle.feed.specs.Network.{adapter_of, Startable, NoticeAt, OwnCall, AllOwn, Hears, OwnLabel, Network}
use Rattle.feed.proofs.Lists.{sending, behind, call_is}
use Rattle.feed.proofs.Places.{packets_some, notice_there, announced_there}
use Rattle.feed.proofs.Hearing.{FromMip, from_mip, label_taken}

-- ---- the inserter's own count
after_is : (s : Inserter) → sound s ≡ true → (is : List Item) → inserter_after s is ≡ behind s (came is)
after_is s ok [] = refl
after_is s ok (i ∷ is) =
    rw (call_is s ok i) (go (given_refusal i.bytes i.sts) (after_is (sending s i).inserter (sent_sound s i.bytes i.sts ok) is) (after_is s ok is))
  where
    go : (k : ℕ) → inserter_after (sending s i).inserter is ≡ behind (sending s i).inserter (came is) → inserter_after s is ≡ behind s (came is)
        → inserter_after (unless_kept s i.bytes k (sending s i)).inserter is ≡ behind s (cond (eqb k 0) (i ∷ came is) (came is))
    go zero moved kept = moved
    go (suc k) moved kept = rw (ne_eqb (suc k) 0 (λ e. omega (arith, e))) kept

label_moves : (s : Inserter) (i : Item) → (sending s i).inserter.progress.label ≡ next_label s.settings.n s.progress.label
unfolding sent progress_after
label_moves s i = refl

settings_stay : (s : Inserter) (i : Item) → (sending s i).inserter.settings ≡ s.settings
unfolding sent
settings_stay s i = refl

label_behind : (n : ℕ) (s : Inserter) → s.settings.n ≡ n → (x : ℕ) → s.progress.label ≡ label_at n x → (is : List Item) → (behind s is).progress.label ≡ label_at n (x + length is)
label_behind n s m x e [] = let z : x ≡ x + 0 = omega arith in e ∙ ap (label_at n) z
label_behind n s m x e (i ∷ is) =
    let on : (sending s i).inserter.progress.label ≡ label_at n (x + 1) =
    label_moves s i ∙ ap (λ (l : ℕ). next_label s.settings.n l) e ∙ ap (λ (y : ℕ). next_label y (label_at n x)) m ∙ sym (next_place n x) in
    let far : x + 1 + length is ≡ x + suc (length is) = omega arith in
    label_behind n (sending s i).inserter (ap (λ (t : Settings). t.n) (settings_stay s i) ∙ m) (x + 1) on is ∙ ap (label_at n) far

-- ---- what a notice at a place says
module _ (t : Settings) (f : List ℕ) (is : List Item) (k : Startable t f) where
  abbrev ps : List (List ℕ)
  ps = packets (begun t f) is

  module _ (p : ℕ) (e : is_mip (packet_at ps p) ≡ true) where
    there : NoticeAt t f is p
    there = notice_there t f is k p e

    said : (pointer (packet_at ps p) ≡ pointer_of t.n (label_at t.n p))
        × ((synchronization_time_stamp (packet_at ps p)).0 ≡ (sts_at is p).0) × ((maximum_delay (packet_at ps p)).0 ≡ t.md.0)
    said =
        let short = (accepted t f k.accepted).short in
        let r = (reads_sound (packet_at ps p) longest_addressing _ (there.read longest_addressing (omega (arith, short)))).1 in
        (ap (λ (n : Notice). n.pointer) r, ap (λ (n : Notice). n.sts.0) r, ap (λ (n : Notice). n.md.0) r)

    label_said : label_of t.n (pointer (packet_at ps p)) ≡ label_at t.n p
    label_said =
        let below : label_at t.n p < t.n = mod-lt p (packets_some t f is k) in
        ap (label_of t.n) said.0 ∙ own_inverse t.n (label_at t.n p) below

  -- a slave's label
  own_label : (s : Slave) → s.board.n ≡ t.n → (p : ℕ) (form : Form) (tick limit : ℕ) → OwnLabel t f is p s (packet form (packet_at ps p) tick limit)
  unfolding hear
  own_label s m p form tick limit e =
      let r = label_taken s (packet_at ps p) tick limit e in
      let same : label_of s.board.n (pointer (packet_at ps p)) ≡ label_at t.n p = ap (λ (n : ℕ). label_of n (pointer (packet_at ps p))) m ∙ label_said p r.0 in
      (r.1.0 ∙ ap some same, r.1.1 ∙ ap₂ next_label m same)

  -- ---- the premise of demand 3
  module _ (g : Board) (m : g.n ≡ t.n) (dvb : g.profile ≡ 0) where
    genuine_by : (p : ℕ) (bytes : List ℕ) (v : Judgement) → FromMip g bytes v → (takes v ≡ true → bytes ≡ packet_at ps p) → Genuine g.n (adapter_of t is) p v
    genuine_by p bytes Lost h own = tt
    genuine_by p bytes (Refuse j) h own = tt
    genuine_by p bytes (Counts j) h own = tt
    genuine_by p bytes (Takes x) h own =
        let same = own refl in
        let e : is_mip (packet_at ps p) ≡ true = ap is_mip (sym same) ∙ h.0 in
        let s = said p e in
        let sts : x.sts ≡ (sts_at is p).0 = h.2 ∙ ap (λ (b : List ℕ). (synchronization_time_stamp b).0) same ∙ s.1 in
        let md : x.md ≡ t.md.0 = h.3 ∙ ap (λ (b : List ℕ). (maximum_delay b).0) same ∙ s.2 in
        record {
          points = h.1 ∙ ap pointer same ∙ s.0 ∙ ap (λ (n : ℕ). pointer_of n (label_at n p)) (sym m);
          here = ap (λ (n : ℕ). adapter_of t is (p / n)) m ∙ (there p e).here
              ∙ (λ i. some (record { label = label_at (sym m i) p; sts = sym sts i; md = sym md i }));
        }

    refused_20 : (p : ℕ) (r : ℕ) (j : Judgement) → Genuine g.n (adapter_of t is) p (unless_refused r (cond (eqb g.profile 0) (Refuse 20) j))
    refused_20 p zero j = rw dvb tt
    refused_20 p (suc r) j = tt

    genuine_call : (b : Book) (c : Call) → OwnCall ps g b c → GenuineCall g (adapter_of t is) b c
    unfolding verdict_at judged
    genuine_call b (at p (packet form bytes tick limit)) own = genuine_by p bytes _ (from_mip g _ bytes tick limit) own
    genuine_call b (at p (numbers bytes tick x)) own = refused_20 p (arrival_refusal g.profile bytes tick) _
    genuine_call b (gap j) own = tt

    all_genuine : (b : Book) (cs : List Call) → AllOwn ps g b cs → AllGenuine g (adapter_of t is) b cs
    all_genuine b [] own = tt
    all_genuine b (c ∷ cs) own = (genuine_call b c own.0, all_genuine (enter_call g b c) cs own.1)

  -- a cadence of profile 0 is none of profile 1's
  profile_0 : (profile : ℕ) → profile < 2 → admits profile t.n ≡ true → profile ≡ 0
  unfolding admits
  profile_0 zero h e = refl
  profile_0 (suc zero) h e =
      let w = admitted_length t.n (accepted t f k.accepted).cadence in
      absurd (omega (arith, length_range w.0 w.1, w.2, eqb-true t.n 624 e))
  profile_0 (suc (suc q)) h e = absurd (omega (arith, h))

  runs : (g : Board) (calls : List Call) → Hears t f is g calls → Run g (adapter_of t is) calls
  runs g calls h =
      let dvb = profile_0 g.profile (profile_small g h.accepted) (ap (admits g.profile) (sym h.cadence) ∙ admitted g h.accepted) in
      record { accepted = h.accepted; rising = h.rising; genuine = all_genuine g h.cadence dvb closed calls h.own }

-- THE INSERTER IS THE NETWORK'S ADAPTER
pub network : (t : Settings) (f : List ℕ) (is : List Item) → Startable t f → Network t f is
network t f is k =
    record {
      counts = λ before.
          ap (λ (s : Inserter). s.progress.label) (after_is (begun t f) (begun_sound t f k.accepted) before)
          ∙ label_behind t.n (begun t f) refl 0 (sym (mod-eq_of_lt (packets_some t f is k))) (came before) ∙ ap (label_at t.n) (omega arith);
      notices = notice_there t f is k;
      no_other = announced_there t f is k;
      labels = own_label t f is k;
      demand = demand_3 (adapter_of t is);
      runs = runs t f is k;
    }
