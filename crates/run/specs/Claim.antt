-- Demand 3: what is claimed of every run, and of any two on one stream, by the book; a loss may be told by a gap or by an empty packet.
use Rattle.std.specs.Prelude.{ℕ, suc, ◌/◌, ◌≡◌, Bool, true, false, cond, ◌&&◌, List, ◌∷◌, ◌++◌, eqb, pos, ◌-ℤ◌}
use Rattle.std.proofs.Math.Option.{Option, none, some}
use Rattle.wire.specs.Reply.{Reply, refused, given}
use Rattle.times.specs.Whole.{residue}
use Rattle.times.specs.Release.{Times, Due, released, reference}
use Rattle.cadence.specs.Label.{label_at}
use Rattle.state.specs.Profile.{second}
use Rattle.state.specs.Sound.{is_zero, sound}
use Rattle.state.specs.declared.Board.{Board}
use Rattle.state.specs.declared.Slave.{Slave}
use Rattle.judging.specs.Judgement.{Judgement, Lost, Refuse, Counts, Takes}
use Rattle.slave.specs.Answer.{Notice, absent, taken, slip, due, Report}
use Rattle.slave.specs.Step.{unheard_report, notice_by}
use Rattle.slave.specs.Calls.{gap_of}
use Rattle.run.specs.Adapter.{Announced, Adapter}
use Rattle.run.specs.Book.{Arrival, Call, at, gap, Book, closed, opened, verdict_at, untold, book_after}
use Rattle.run.specs.Run.{hear, slave_after, begun, Run}

-- ---- the reply to a counted packet, by the book before it

-- where no notice is taken: the adapter's label less the number untold, modulo n; none before the first notice taken
abbrev pub label_by : ℕ → Book → ℕ → Option ℕ
label_by n closed t = none
label_by n (opened s u told od) t = some (residue n (pos (label_at n t) -ℤ untold s u t))

-- a later notice taken has the slip mark exactly when the number untold is no multiple of n; the first has none
abbrev pub slip_by : ℕ → Book → ℕ → Notice
slip_by n closed t = taken
slip_by n (opened s u told od) t = cond (eqb (residue n (untold s u t)) 0) taken slip

-- all losses since the last notice taken were told exactly: u was 0 at every packet counted since, and is 0 at t
abbrev pub told_exactly : Book → ℕ → Bool
told_exactly closed t = false
told_exactly (opened s u told od) t = told && is_zero (untold s u t)

-- r is the reference emission time of the adapter's notice for the mark at place t, which it wrote in the cadence before
pub record Timed (n U : ℕ) (A : Adapter) (t r : ℕ) : Type 0 where
  pub mark : label_at n t ≡ 0
  pub cadence : ℕ
  pub next : t / n ≡ suc cadence
  pub notice : Announced
  pub written : A cadence ≡ some notice
  pub time : r ≡ reference U notice.sts notice.md

-- the reply counts the packet, with this label and this notice's part; a mark that is due is in the unit of the profile, and one that is
-- released, all told exactly, has the adapter's time
pub record Right (g : Board) (A : Adapter) (b : Book) (t : ℕ) (label : Option ℕ) (notice : Notice) (r : Reply Report) : Type 0 where
  pub report : Report
  pub counted : r ≡ given report
  pub labelled : report.label ≡ label
  pub noticed : report.notice ≡ notice
  pub unit : (profile : ℕ) (d : Due) → report.mark ≡ due profile d → profile ≡ g.profile
  pub timed : (x : Times) → report.mark ≡ due g.profile (released x) → told_exactly b t ≡ true
      → Timed g.n (second g.profile) A t x.reference

-- by the verdict; an empty packet has a reply with nothing in it, and a number of K is the whole reply
abbrev pub RightReply : Board → Adapter → Book → ℕ → Judgement → Reply Report → Type 0
RightReply g A b t Lost r = r ≡ given (unheard_report absent)
RightReply g A b t (Refuse k) r = r ≡ refused k
RightReply g A b t (Counts k) r = Right g A b t (label_by g.n b t) (notice_by k) r
RightReply g A b t (Takes x) r = Right g A b t (some (label_at g.n t)) (slip_by g.n b t) r

-- a call on the slave s, by the book b
abbrev pub RightCall : Board → Adapter → Book → Slave → Call → Type 0
RightCall g A b s (at t a) = RightReply g A b t (verdict_at g b a) (hear s a).reply
RightCall g A b s (gap k) = (gap_of s k).reply ≡ given tt

-- ---- runs

-- after any calls of the run the slave is sound, so that 15 never arises, and has the start's settings; the next call is answered rightly
pub record Followed (g : Board) (A : Adapter) (calls : List Call) : Type 0 where
  pub sound_after : (before after : List Call) → calls ≡ before ++ after → sound (slave_after (begun g) before) ≡ true
  pub board_after : (before after : List Call) → calls ≡ before ++ after → (slave_after (begun g) before).board ≡ g
  pub answers : (before after : List Call) (c : Call) → calls ≡ before ++ c ∷ after
      → RightCall g A (book_after g closed before) (slave_after (begun g) before) c

-- a mark released at place t with these times, in the unit of this profile
pub record ReleasedAt (g : Board) (calls : List Call) (t profile : ℕ) (x : Times) : Type 0 where
  pub before : List Call
  pub after : List Call
  pub arrival : Arrival
  pub call : calls ≡ before ++ at t arrival ∷ after
  pub report : Report
  pub counted : (hear (slave_after (begun g) before) arrival).reply ≡ given report
  pub mark : report.mark ≡ due profile (released x)

-- one in a run on the adapter's stream, all losses since the last notice taken told exactly
pub record ReleasedTold (A : Adapter) (g : Board) (calls : List Call) (t profile : ℕ) (x : Times) : Type 0 where
  pub run : Run g A calls
  pub release : ReleasedAt g calls t profile x
  pub exact : told_exactly (book_after g closed release.before) t ≡ true

-- marks of some kind: each that two slaves of one profile and cadence both release has one reference time, in one unit
abbrev pub OneTimeOf : ((g : Board) (calls : List Call) (t profile : ℕ) → Times → Type 0) → Type 0
OneTimeOf Marked =
    (g h : Board) (calls others : List Call) → g.profile ≡ h.profile → g.n ≡ h.n
    → (t p q : ℕ) (x y : Times) → Marked g calls t p x → Marked h others t q y → (p ≡ q) × (x.reference ≡ y.reference)

-- any two slaves of one profile and cadence on the adapter's stream give one reference time to each mark that both release, all told exactly
abbrev pub OneTime : Adapter → Type 0
OneTime A = OneTimeOf (ReleasedTold A)

-- every run on the adapter's stream, empty packets in it as gaps of one, and any two
pub record Demand3 (A : Adapter) : Type 0 where
  pub followed : (g : Board) (calls : List Call) → Run g A calls → Followed g A calls
  pub one_time : OneTime A
