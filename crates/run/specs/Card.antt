-- A listener behind a radio link card counts as having been told (document 02, Paper 5). An empty packet leaves what a gap of one leaves; and where all
-- that is lost is told in its place, by empty packets or by gaps, nothing is untold in what demand 3 says.
use Rattle.std.specs.Prelude.{ℕ, suc, ◌+◌, ◌≡◌, Bool, List, [], ◌∷◌, map, ℤ}
use Rattle.std.proofs.Math.Option.{some}
use Rattle.wire.specs.Reply.{number_of}
use Rattle.times.specs.Release.{Times, released}
use Rattle.cadence.specs.Label.{label_at}
use Rattle.state.specs.Profile.{second}
use Rattle.state.specs.declared.Board.{Board}
use Rattle.state.specs.declared.Slave.{Slave}
use Rattle.judging.specs.Judgement.{Judgement, Lost, Refuse, Counts, Takes}
use Rattle.slave.specs.Answer.{slip, due, label_in, notice_in, mark_in}
use Rattle.slave.specs.Calls.{packet_of, gap_of}
use Rattle.run.specs.Adapter.{Adapter}
use Rattle.run.specs.Book.{Arrival, packet, numbers, Call, at, gap, Book, closed, opened, verdict_at, enter_call, book_after}
use Rattle.run.specs.Run.{hear, slave_after, Run}
use Rattle.run.specs.Claim.{Timed, ReleasedAt, OneTimeOf}
use Rattle.run.specs.Sentences.{Sentence, InEvery}

-- ---- the same calls with their losses told by gaps

-- a gap of one for an empty packet, any other call as it is: `is_empty` holds of `[]` alone
abbrev pub by_gap : Call → Call
by_gap (at t (packet form [] tick limit)) = gap 1
by_gap (at t (packet form (x ∷ p) tick limit)) = at t (packet form (x ∷ p) tick limit)
by_gap (at t (numbers p tick x)) = at t (numbers p tick x)
by_gap (gap k) = gap k

abbrev pub by_gaps : List Call → List Call
by_gaps = map by_gap

-- an empty packet and a gap of one leave the same slave, whatever it was, and 15 for the same ones; its tick and limit do not matter. So two slaves that
-- begin as one, one behind a card and one told by gaps, are one after each call, and every call that both get has one reply; both are in a run, or neither,
-- and one book is theirs
pub record OneByGaps : Type 0 where
  pub unread : (s : Slave) (tick other limit m : ℕ) → packet_of s [] tick limit ≡ packet_of s [] other m
  pub one_slave : (s : Slave) (tick limit : ℕ) → (packet_of s [] tick limit).slave ≡ (gap_of s 1).slave
  pub one_number : (s : Slave) (tick limit : ℕ) → number_of (packet_of s [] tick limit).reply ≡ number_of (gap_of s 1).reply
  pub slaves : (s : Slave) (calls : List Call) → slave_after s (by_gaps calls) ≡ slave_after s calls
  pub replies : (s : Slave) (before : List Call) (a : Arrival) → hear (slave_after s (by_gaps before)) a ≡ hear (slave_after s before) a
  pub gaps : (s : Slave) (before : List Call) (k : ℕ) → gap_of (slave_after s (by_gaps before)) k ≡ gap_of (slave_after s before) k
  pub books : (g : Board) (b : Book) (calls : List Call) → book_after g b (by_gaps calls) ≡ book_after g b calls
  pub runs : (g : Board) (A : Adapter) (calls : List Call) → Run g A calls → Run g A (by_gaps calls)
  pub runs_back : (g : Board) (A : Adapter) (calls : List Call) → Run g A (by_gaps calls) → Run g A calls

-- ---- all that is lost is told in its place

-- what comes when place t is next, by its verdict: a packet that counts is the one of that place
abbrev pub InPlace : Judgement → (own t : ℕ) → Type 0
InPlace Lost own t = Unit {0}
InPlace (Refuse k) own t = Unit {0}
InPlace (Counts k) own t = own ≡ t
InPlace (Takes x) own t = own ≡ t

-- the place that is next after it: the one of a packet that is refused with K is still to be told
abbrev pub place_behind : Judgement → ℕ → ℕ
place_behind Lost t = suc t
place_behind (Refuse k) t = t
place_behind (Counts k) t = suc t
place_behind (Takes x) t = suc t

-- place t is next; before the first notice taken nothing is asked, and that one says which place is next
abbrev pub AllTold : Board → Book → ℕ → List Call → Type 0
AllTold g b t [] = Unit {0}
AllTold g closed t (at own a ∷ cs) = AllTold g (enter_call g closed (at own a)) (suc own) cs
AllTold g (opened s u told od) t (at own a ∷ cs) =
    InPlace (verdict_at g (opened s u told od) a) own t
    × AllTold g (enter_call g (opened s u told od) (at own a)) (place_behind (verdict_at g (opened s u told od) a) t) cs
AllTold g b t (gap k ∷ cs) = AllTold g (enter_call g b (gap k)) (t + k) cs

pub record ToldRun (A : Adapter) (g : Board) (calls : List Call) : Type 0 where
  pub run : Run g A calls
  pub told : AllTold g closed 0 calls

-- from the first notice taken on, the label of every counted packet is the adapter's; where a notice is taken demand 3 says so
abbrev pub LabelWhereTold : Sentence
LabelWhereTold g b t v r = (k : ℕ) → v ≡ Counts k → (s : ℕ) (u : ℤ) (told : Bool) (od : ℤ) → b ≡ opened s u told od → label_in r ≡ some (label_at g.n t)

-- no notice is a slip
abbrev pub NoSlip : Sentence
NoSlip g b t v r = notice_in r ≡ slip → ⊥

-- every mark released has the reference emission time of the adapter's notice for it, in the unit of the slave's own profile
abbrev pub TimeWhereReleased : Adapter → Sentence
TimeWhereReleased A g b t v r =
    (profile : ℕ) (x : Times) → mark_in r ≡ due profile (released x) → (profile ≡ g.profile) × Timed g.n (second profile) A t x.reference

-- every run on the adapter's stream in which all that is lost is told in its place, and any two
pub record AllToldAgree (A : Adapter) : Type 0 where
  pub labels : InEvery (ToldRun A) LabelWhereTold
  pub slips : InEvery (ToldRun A) NoSlip
  pub times : InEvery (ToldRun A) (TimeWhereReleased A)
  pub two_slaves : OneTimeOf (λ g calls t p x. ToldRun A g calls × ReleasedAt g calls t p x)
