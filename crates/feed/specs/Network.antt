-- The inserter as the adapter of a network (document 02, Paper 1; document 01, "Runs"; demand 3).
use Rattle.std.specs.Prelude.{◌≡◌, ℕ, suc, ◌+◌, ◌*◌, ◌/◌, ◌%◌, ◌^◌, ◌≤◌, ◌<◌, true, cond, List, [], ◌∷◌, length}
use Rattle.std.proofs.Math.Option.{Option, none, some}
use Rattle.wire.specs.Reply.{given}
use Rattle.cadence.specs.Label.{label_at, next_label}
use Rattle.notice.specs.Mip.{addressing_field}
use Rattle.notice.specs.Reader.{limit_of, read_of}
use Rattle.state.specs.Profile.{settings_kept}
use Rattle.state.specs.declared.Board.{Board}
use Rattle.state.specs.declared.Slave.{Slave}
use Rattle.slave.specs.Answer.{label_in, notice_in}
use Rattle.inserter.specs.declared.Settings.{Settings}
use Rattle.inserter.specs.Settings.{notice_at, settings_refusal, begun}
use Rattle.inserter.specs.Packet.{is_null}
use Rattle.run.specs.Adapter.{Announced, Adapter}
use Rattle.run.specs.Book.{Form, Arrival, packet, numbers, Call, at, gap, Book, closed, verdict_at, enter_call}
use Rattle.run.specs.Coasting.{is_taken}
use Rattle.run.specs.Late.{takes}
use Rattle.run.specs.Run.{hear, places, Rise, Run}
use Rattle.run.specs.Claim.{Demand3}
use Rattle.feed.specs.Calls.{Item, inserter_after, packets, came, sts_at, packet_at}
use Rattle.feed.specs.MegaFrames.{frame, notices_before, is_mip}

-- the notice of a mega-frame, from this label on: the inserter puts it in place of the first null packet, and its STS is the one given with that packet
unfoldable pub announced : Settings → (label : ℕ) → List Item → Option Announced
announced t label [] = none
announced t label (i ∷ is) =
    cond (is_null i.bytes) (some (record { label = label; sts = i.sts.0; md = t.md.0 })) (announced t (suc label) is)

-- the adapter that an inserter is: in mega-frame k the notice that it put there, if it put one
abbrev pub adapter_of : Settings → List Item → Adapter
adapter_of t is = λ k. announced t 0 (frame t.n k (came is))

-- settings that a start accepts; their TPS has 32 bits, as that of every inserter that code holds
pub record Startable (t : Settings) (f : List ℕ) : Type 0 where
  pub accepted : settings_refusal t f ≡ 0
  pub tps : t.tps < 2 ^ 32

-- what leaves at place p is a notice: any reader within whose limit its addressing field is reads from it exactly the settings, the pointer of the label there
-- and the STS given with that packet, and gets back its addressing field; and it is the adapter's notice of that mega-frame
pub record NoticeAt (t : Settings) (f : List ℕ) (is : List Item) (p : ℕ) : Type 0 where
  pub read : (limit : ℕ) → length f ≤ limit_of limit
      → read_of (packet_at (packets (begun t f) is) p) limit ≡ given (notice_at t (label_at t.n p) (notices_before t.n (p / t.n) (came is) % 16) (sts_at is p))
  pub field : addressing_field (packet_at (packets (begun t f) is) p) ≡ f
  pub here : adapter_of t is (p / t.n) ≡ some (record { label = label_at t.n p; sts = (sts_at is p).0; md = t.md.0 })

-- ---- a slave that hears the inserter

-- a packet whose notice is taken is the inserter's own at its place; nothing is asked of any other, damaged or not, nor of numbers notices and gaps
abbrev pub OwnCall : List (List ℕ) → Board → Book → Call → Type 0
OwnCall ps g b (at p (packet form bytes tick limit)) = takes (verdict_at g b (packet form bytes tick limit)) ≡ true → bytes ≡ packet_at ps p
OwnCall ps g b (at p (numbers bytes tick x)) = Unit {0}
OwnCall ps g b (gap k) = Unit {0}

abbrev pub AllOwn : List (List ℕ) → Board → Book → List Call → Type 0
AllOwn ps g b [] = Unit {0}
AllOwn ps g b (c ∷ cs) = OwnCall ps g b c × AllOwn ps g (enter_call g b c) cs

-- calls on a freshly started slave of the inserter's cadence, no packet counted twice
pub record Hears (t : Settings) (f : List ℕ) (is : List Item) (g : Board) (calls : List Call) : Type 0 where
  pub accepted : settings_kept g ≡ true
  pub cadence : g.n ≡ t.n
  pub rising : Rise 0 (places g closed calls)
  pub own : AllOwn (packets (begun t f) is) g closed calls

-- the label of any slave of that cadence that takes one of the notices, at whatever place it hears it, is the one that the inserter counted there
abbrev pub OwnLabel : (t : Settings) (f : List ℕ) (is : List Item) (p : ℕ) → Slave → Arrival → Type 0
OwnLabel t f is p s a =
    is_taken (notice_in (hear s a).reply) ≡ true
    → (label_in (hear s a).reply ≡ some (label_at t.n p)) × ((hear s a).slave.count.next ≡ next_label t.n (label_at t.n p))

-- ---- the network of an inserter that these settings start

pub record Network (t : Settings) (f : List ℕ) (is : List Item) : Type 0 where
  -- the label that it counts, after any calls, is that of the next packet's place
  pub counts : (before : List Item) → (inserter_after (begun t f) before).progress.label ≡ label_at t.n (length (came before))
  -- every packet with the MIP's PID that it sends is such a notice, and the adapter has no other: where it has one in mega-frame k, that stands in it
  pub notices : (p : ℕ) → is_mip (packet_at (packets (begun t f) is) p) ≡ true → NoticeAt t f is p
  pub no_other : (k : ℕ) (a : Announced) → adapter_of t is k ≡ some a → (a.label < t.n) × (is_mip (packet_at (packets (begun t f) is) (t.n * k + a.label)) ≡ true)
  pub labels : (s : Slave) → s.board.n ≡ t.n → (p : ℕ) (form : Form) (tick limit : ℕ) → OwnLabel t f is p s (packet form (packet_at (packets (begun t f) is) p) tick limit)
  -- demand 3, whose premise asks of each notice taken that it is the adapter's
  pub demand : Demand3 (adapter_of t is)
  -- and that premise follows where each packet that comes is the inserter's own at its place, or one whose notice is not taken
  pub runs : (g : Board) (calls : List Call) → Hears t f is g calls → Run g (adapter_of t is) calls
