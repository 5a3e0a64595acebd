-- What a longer MD makes of a late mark (document 02, Paper 3).
use Rattle.std.specs.Prelude.{ℕ, ◌+◌, ◌-◌, ◌<◌, ◌≡◌, Bool, true, false, List, [], ◌∷◌, pos}
use Rattle.times.specs.Release.{Times, late, released}
use Rattle.state.specs.Sound.{sound}
use Rattle.state.specs.declared.Slave.{Slave}
use Rattle.judging.specs.Judgement.{Judgement, Lost, Refuse, Counts, Takes}
use Rattle.slave.specs.Answer.{Mark, due, mark_in}
use Rattle.run.specs.Book.{Arrival, tick_of, Call, at, gap, judged}
use Rattle.run.specs.Run.{hear, leave, slave_after}

-- how a slave judges what comes
abbrev pub judged_by : Slave → Arrival → Judgement
judged_by s a = judged s.board s.settings a

abbrev pub takes : Judgement → Bool
takes Lost = false
takes (Refuse k) = false
takes (Counts k) = false
takes (Takes x) = true

-- the same judgement of a notice with MD longer by y; where none is taken it stays
abbrev pub longer : ℕ → Judgement → Judgement
longer y Lost = Lost
longer y (Refuse k) = Refuse k
longer y (Counts k) = Counts k
longer y (Takes x) = Takes (record x { md = x.md + y })

-- a call takes no notice, and none of a list does
abbrev pub TakesNone : Slave → Call → Type 0
TakesNone s (at t a) = takes (judged_by s a) ≡ false
TakesNone s (gap k) = Unit {0}

abbrev pub NoneTaken : Slave → List Call → Type 0
NoneTaken s [] = Unit {0}
NoneTaken s (c ∷ cs) = TakesNone s c × NoneTaken (leave s c) cs

-- two feeds up to a mark. A sound slave takes the notice that a carries, or the same with MD longer by y, which a' carries: 11 and 13 allow both. The
-- calls behind it take none. Then b comes, or at the same tick b', which is judged alike; where it has a notice of its own, that one's MD may be longer
pub record Lengthened (s : Slave) (y : ℕ) (a a' : Arrival) (behind : List Call) (b b' : Arrival) : Type 0 where
  pub is_sound : sound s ≡ true
  pub taken : takes (judged_by s a) ≡ true
  pub longer_taken : judged_by s a' ≡ longer y (judged_by s a)
  pub none_behind : NoneTaken (hear s a).slave behind
  pub same_tick : tick_of b' ≡ tick_of b
  pub own : ℕ
  pub alike : judged_by (slave_after (hear s a).slave behind) b' ≡ longer own (judged_by (slave_after (hear s a).slave behind) b)

-- the mark that comes with b behind the notice and these calls
abbrev pub mark_behind : Slave → Arrival → List Call → Arrival → Mark
mark_behind s a behind b = mark_in (hear (slave_after (hear s a).slave behind) b).reply

-- released, to be held so long
pub record Held (profile wait : ℕ) (m : Mark) : Type 0 where
  pub times : Times
  pub mark : m ≡ due profile (released times)
  pub waits : times.wait ≡ pos wait

-- the mark in the feed with MD longer by y, where it is late by x in the other: released with wait 0 if y is x, late by the rest if y is less, and held
-- for what is over if it is more
pub record Mended (profile x y : ℕ) (m : Mark) : Type 0 where
  pub by_it : y ≡ x → Held profile 0 m
  pub by_less : y < x → m ≡ due profile (late (x - y))
  pub by_more : x < y → Held profile (y - x) m
