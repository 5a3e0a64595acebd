-- A packet call with a limit of the reader's own beside one with another, the full board's among them (document 02, Paper 9).
use mathlib.Core.Path.{◌≡◌, refl, sym, ap, ◌∙◌, subst}
use mathlib.Core.Bool.{Bool, true, false, cond}
use mathlib.Core.List.{List, [], ◌∷◌}
use Prim.Native.Nat.{ℕ, zero, suc, ◌≤◌, ◌<◌}
use native.Mathlib.Omega.{arith}
use lib.Dec.{eqb}
use lib.ListN.{length, get_or, set}
use lib.Seq.{get_or-set_same, get_or-set_other}
use Rattle.std.proofs.Common.{length-set}
use borrow.Author.Tests.{ne_eqb}
use Rattle.std.proofs.lemmas.Bool.Decides.{nat_tests}
use Rattle.wire.specs.Reply.{refused, given}
use Rattle.wire.proofs.Tests.{pick}
use Rattle.wire.specs.Standards.{mip_pid, packet_length, longest_addressing}
use Rattle.addressing.specs.declared.Settings.{Settings}
use Rattle.notice.specs.Mip.{error_indicator, packet_identifier, individual_addressing_length}
use Rattle.notice.specs.Reader.{limit_of, section_refusal}
use Rattle.notice.proofs.Limit.{section_same, section_alike, Front, over_section, over_26}
use Rattle.state.specs.Slave.{cold, nothing}
use Rattle.state.specs.Sound.{sound}
use Rattle.state.specs.declared.Board.{Board}
use Rattle.state.specs.declared.Slave.{Slave}
use Rattle.judging.specs.Judge.{unless_refused, unless_ignored, is_empty, arrival_refusal, carries, judge_mip, judge_arrived}
use Rattle.judging.specs.Judgement.{Judgement, Counts}
use Rattle.judging.proofs.Judging.{arrived_length}
use Rattle.slave.specs.Answer.{Notice, ignored, Report, notice_in, mark_in, Result, left}
use Rattle.slave.specs.Step.{on_mark, mark_at, notice_by, passed, unheard, counted}
use Rattle.slave.specs.Calls.{unless15, step_of, ready_refusal, packet_of}
use Rattle.slave.proofs.Calling.{judged_call, packet_is, ready_sound}
use Rattle.slave.specs.Limit.{over_number, Plain, nulled, noticed, TeachesNothing}

module _ (s : Slave) (p : List ℕ) (tick l m : ℕ) where
  -- limits that are the same for a reader are the same for a slave: 163, and all above it
  pub packet_same : limit_of l ≡ limit_of m → packet_of s p tick l ≡ packet_of s p tick m
  unfolding packet_of judge_arrived judge_mip
  packet_same e = rw (section_same p l m e) refl

  -- within two limits a packet is answered alike, reply and slave
  pub packet_alike : individual_addressing_length p ≤ limit_of l → individual_addressing_length p ≤ limit_of m → packet_of s p tick l ≡ packet_of s p tick m
  unfolding packet_of judge_arrived judge_mip
  packet_alike x y = rw (section_alike p l m x y) refl

  -- and in profile 1, which does not use the limit, whatever its bytes
  pub profile_1_alike : eqb s.board.profile 0 ≡ false → packet_of s p tick l ≡ packet_of s p tick m
  unfolding packet_of judge_arrived carries
  profile_1_alike e = rw e refl

-- by the full board, and by a gap-filler with this limit
pub full_board_alike : (s : Slave) (p : List ℕ) (tick limit : ℕ) → individual_addressing_length p ≤ limit_of limit → packet_of s p tick limit ≡ packet_of s p tick longest_addressing
full_board_alike s p tick limit x = packet_alike s p tick limit longest_addressing x (omega arith)

-- ---- above the limit

-- a number that ignores a notice
ignoring : (k : ℕ) → over_number k ≡ true → (j : Judgement) → unless_ignored k j ≡ Counts k
ignoring zero e j = absurd cc
ignoring (suc i) e j = refl

by_number : (k : ℕ) → over_number k ≡ true → notice_by k ≡ ignored k
by_number zero e = absurd cc
by_number (suc i) e = refl

-- a packet that is counted anyway
counting : (right notice : Bool) (j : Judgement) (k : ℕ) → j ≡ Counts k → cond right (cond notice j (Counts 0)) (Counts 4) ≡ Counts (cond right (cond notice k 0) 4)
counting true true j k e = e
counting true false j k e = refl
counting false notice j k e = refl

module _ (b : Board) (t : Settings) (p : List ℕ) (limit : ℕ) (over : limit_of limit < individual_addressing_length p) where
  not_empty : is_empty p ≡ false
  not_empty = go p over
    where
      go : (p : List ℕ) → limit_of limit < individual_addressing_length p → is_empty p ≡ false
      go [] h = absurd (omega (arith, h))
      go (x ∷ p) h = ne_eqb (length (x ∷ p)) 0 (λ e. omega (arith, e))

  section_among : over_number (section_refusal p limit) ≡ true
  section_among = let e = over_section p limit over in grind (arith, nat_tests)

  -- with which number it is ignored, 0 where it carries no notice
  abbrev pub over_by : ℕ
  over_by = cond (eqb (error_indicator p) 0) (cond (carries b.profile p) (section_refusal p limit) 0) 4

  over_judged : judge_arrived b t p limit ≡ Counts over_by
  unfolding judge_arrived judge_mip
  over_judged = counting (eqb (error_indicator p) 0) (carries b.profile p) _ (section_refusal p limit) (ignoring (section_refusal p limit) section_among _)

  over_among : b.profile ≡ 0 → packet_identifier p ≡ mip_pid → over_number over_by ≡ true
  unfolding carries
  over_among own pid = let e = section_among in grind (arith, nat_tests)

  -- 26, where 4, 6, 7 and 8 do not apply
  over_by_26 : error_indicator p ≡ 0 → b.profile ≡ 0 → packet_identifier p ≡ mip_pid → Front p → over_by ≡ 26
  unfolding carries
  over_by_26 right own pid k = let e = over_26 p limit over k in grind (arith, nat_tests)

-- ---- what a counted packet leaves and replies, but for the notice's part
module _ (s : Slave) (tick k : ℕ) where
  counted_as : counted s k tick ≡ noticed (notice_by k) (counted s 0 tick)
  unfolding counted passed unheard
  counted_as = go (eqb s.count.phase 2)
    where
      go : (b : Bool) → cond b (passed s (notice_by k) tick) (unheard s (notice_by k)) ≡ noticed (notice_by k) (cond b (passed s (notice_by 0) tick) (unheard s (notice_by 0)))
      go true = refl
      go false = refl

  counted_settings : (counted s k tick).slave.settings ≡ s.settings
  unfolding counted passed unheard
  counted_settings = pick (λ (r : Result Report). r.slave.settings ≡ s.settings) (eqb s.count.phase 2) _ _ refl refl

  counted_notice : (r : Report) → (counted s k tick).reply ≡ given r → notice_in (counted s k tick).reply ≡ notice_by k
  unfolding counted passed unheard
  counted_notice r e = grind (arith, nat_tests)

  counted_phase : (counted s k tick).slave.count.phase ≡ s.count.phase
  unfolding counted passed unheard
  counted_phase = grind (arith, nat_tests)

  counted_waiting : (counted s k tick).slave.waiting ≡ cond (on_mark s.count) nothing s.waiting
  unfolding counted passed unheard
  counted_waiting = grind (arith, nat_tests)

  counted_mark : mark_in (counted s k tick).reply ≡ mark_at s tick
  unfolding counted passed unheard mark_at
  counted_mark = grind (arith, nat_tests)

  counted_hunting : eqb s.count.phase 2 ≡ false → (counted s k tick).slave ≡ s
  unfolding counted unheard
  counted_hunting e = rw e refl

-- ---- the call

-- a plain packet
plain_is : (s : Slave) (q : List ℕ) (tick m : ℕ) → Plain s q tick m → packet_of s q tick m ≡ unless15 (sound s) (counted s 0 tick)
unfolding packet_of step_of
plain_is s q tick m e = rw e refl

module _ (s : Slave) (p : List ℕ) (tick : ℕ) where
  -- a packet that is not refused
  given_ready : (j : Judgement) (r : Report) → (judged_call s p tick j).reply ≡ given r → (sound s ≡ true) × (arrival_refusal s.board.profile p tick ≡ 0)
  unfolding step_of
  given_ready j r = go (sound s) (arrival_refusal s.board.profile p tick)
    where
      go : (b : Bool) (k : ℕ) → (cond b (step_of s (unless_refused k j) tick) (left cold (refused 15))).reply ≡ given r → (b ≡ true) × (k ≡ 0)
      go true zero e = (refl, refl)
      go true (suc k) e = absurd cc
      go false k e = absurd cc

  call_as : (k : ℕ) → judged_call s p tick (Counts k) ≡ noticed (notice_by k) (judged_call s p tick (Counts 0))
  unfolding step_of
  call_as k = go (sound s) (arrival_refusal s.board.profile p tick)
    where
      go : (b : Bool) (n : ℕ) → cond b (step_of s (unless_refused n (Counts k)) tick) (left cold (refused 15)) ≡ noticed (notice_by k) (cond b (step_of s (unless_refused n (Counts 0)) tick) (left cold (refused 15)))
      go true zero = counted_as s tick k
      go true (suc n) = refl
      go false n = refl

  module _ (limit : ℕ) (over : limit_of limit < individual_addressing_length p) where
    abbrev number : ℕ
    number = over_by s.board s.settings p limit over

    over_call : packet_of s p tick limit ≡ judged_call s p tick (Counts number)
    over_call = sym (packet_is s p tick limit (not_empty s.board s.settings p limit over)) ∙ ap (judged_call s p tick) (over_judged s.board s.settings p limit over)

    -- of a slave of profile 0, by a notice of its own that the limit is below
    pub teaches_nothing : s.board.profile ≡ 0 → packet_identifier p ≡ mip_pid → (r : Report) → (packet_of s p tick limit).reply ≡ given r
        → TeachesNothing s tick (packet_of s p tick limit)
    unfolding step_of
    teaches_nothing own pid r e =
        let w = given_ready (Counts number) r (ap (λ (x : Result Report). x.reply) (sym over_call) ∙ e) in
        let k = over_among s.board s.settings p limit over own pid in
        let is : packet_of s p tick limit ≡ counted s number tick = over_call ∙ rw (w.0, w.1) refl in
        subst (TeachesNothing s tick) (sym is)
        (record {
          number = number;
          among = k;
          ignores = counted_notice s tick number r (ap (λ (x : Result Report). x.reply) (sym is) ∙ e) ∙ by_number number k;
          as_plain = λ q m plain.
              counted_as s tick number
              ∙ ap (λ (n : Notice). noticed n (counted s 0 tick)) (by_number number k)
              ∙ ap (noticed (ignored number)) (sym (plain_is s q tick m plain ∙ rw w.0 refl));
          settings = counted_settings s tick number;
          phase = counted_phase s tick number;
          waiting = counted_waiting s tick number;
          mark = counted_mark s tick number;
          hunting = counted_hunting s tick number;
        })

    -- with 26, where 4, 6, 7 and 8 do not apply, whatever the check value
    pub teaches_26 : s.board.profile ≡ 0 → packet_identifier p ≡ mip_pid → error_indicator p ≡ 0 → Front p → (r : Report) → (packet_of s p tick limit).reply ≡ given r
        → notice_in (packet_of s p tick limit).reply ≡ ignored 26
    unfolding teaches_nothing
    teaches_26 own pid right k r e =
        let t = teaches_nothing own pid r e in
        t.ignores ∙ ap ignored (over_by_26 s.board s.settings p limit over right own pid k)

-- ---- the same with a null packet's PID in its place

module _ (s : Slave) (p : List ℕ) (tick : ℕ) where
  nulled_length : length (nulled p) ≡ length p
  nulled_length = length-set (set p 1 0x1F) 2 0xFF ∙ length-set p 1 0x1F

  nulled_byte : (i : ℕ) → (i ≡ 1 → ⊥) → (i ≡ 2 → ⊥) → get_or (nulled p) i 0 ≡ get_or p i 0
  nulled_byte i f g = get_or-set_other (set p 1 0x1F) 2 i 0xFF 0 g ∙ get_or-set_other p 1 i 0x1F 0 f

  nulled_arrival : arrival_refusal s.board.profile (nulled p) tick ≡ arrival_refusal s.board.profile p tick
  unfolding arrival_refusal
  nulled_arrival = rw (nulled_length, nulled_byte 0 (λ e. omega arith) (λ e. omega arith)) refl

  nulled_empty : is_empty (nulled p) ≡ is_empty p
  nulled_empty = ap (λ (n : ℕ). eqb n 0) nulled_length

  -- it carries no notice
  nulled_first : length p ≡ packet_length → get_or (nulled p) 1 0 ≡ 0x1F
  nulled_first e = get_or-set_other (set p 1 0x1F) 2 1 0xFF 0 (λ q. omega arith) ∙ get_or-set_same p 1 0x1F 0 (omega (arith, e))

  nulled_second : length p ≡ packet_length → get_or (nulled p) 2 0 ≡ 0xFF
  nulled_second e = get_or-set_same (set p 1 0x1F) 2 0xFF 0 (omega (arith, e, length-set p 1 0x1F))

  nulled_judged : (t : Settings) (m : ℕ) → length p ≡ packet_length → judge_arrived s.board t (nulled p) m ≡ Counts 0
  unfolding judge_arrived carries
  nulled_judged t m e =
      let x = nulled_first e in
      let y = nulled_second e in
      grind (arith, nat_tests)

  -- where the packet is not refused it is a plain one
  pub nulled_plain : (m : ℕ) → ready_refusal s p tick ≡ 0 → Plain s (nulled p) tick m
  nulled_plain m e =
      let long = arrived_length s.board.profile p tick (ready_sound s p tick e).1 in
      rw (nulled_empty, nulled_arrival, (ready_sound s p tick e).1, nulled_judged s.settings m long, ap (λ (n : ℕ). eqb n 0) long) refl

  -- so it is refused as the packet is, and counts where that counts
  nulled_call : (m : ℕ) → is_empty p ≡ false → packet_of s (nulled p) tick m ≡ judged_call s p tick (Counts 0)
  nulled_call m e =
      sym (packet_is s (nulled p) tick m (nulled_empty ∙ e))
      ∙ ap (λ (k : ℕ). unless15 (sound s) (step_of s (unless_refused k (judge_arrived s.board s.settings (nulled p) m)) tick)) nulled_arrival
      ∙ go (arrival_refusal s.board.profile p tick) refl
    where
      go : (k : ℕ) → arrival_refusal s.board.profile p tick ≡ k
          → unless15 (sound s) (step_of s (unless_refused k (judge_arrived s.board s.settings (nulled p) m)) tick) ≡ unless15 (sound s) (step_of s (unless_refused k (Counts 0)) tick)
      go zero q = ap (λ (j : Judgement). unless15 (sound s) (step_of s j tick)) (nulled_judged s.settings m (arrived_length s.board.profile p tick q))
      go (suc k) q = refl

  -- above the limit a packet does to any slave, and has in its reply but for the notice's part, what that does and has, for any reader
  pub over_nulled : (limit : ℕ) (over : limit_of limit < individual_addressing_length p) (m : ℕ)
      → packet_of s p tick limit ≡ noticed (notice_by (over_by s.board s.settings p limit over)) (packet_of s (nulled p) tick m)
  over_nulled limit over m =
      over_call s p tick limit over
      ∙ call_as s p tick (over_by s.board s.settings p limit over)
      ∙ ap (noticed (notice_by (over_by s.board s.settings p limit over))) (sym (nulled_call m (not_empty s.board s.settings p limit over)))
