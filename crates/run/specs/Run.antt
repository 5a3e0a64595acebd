-- A run of a slave (document 01, "Runs"): what each call leaves, and what is asked of the list of calls.
use Rattle.std.specs.Prelude.{ℕ, suc, ◌≤◌, ◌≡◌, true, List, [], ◌∷◌}
use Rattle.state.specs.Profile.{settings_kept}
use Rattle.state.specs.declared.Board.{Board}
use Rattle.state.specs.declared.Slave.{Slave}
use Rattle.judging.specs.Judgement.{Judgement, Lost, Refuse, Counts, Takes}
use Rattle.slave.specs.Answer.{Report, Result}
use Rattle.slave.specs.Calls.{start_of, packet_of, numbers_of, gap_of}
use Rattle.run.specs.Adapter.{Adapter, Wrote}
use Rattle.run.specs.Book.{Arrival, packet, numbers, Call, at, gap, Book, closed, verdict_at, enter_call}

-- ---- the slave in a run

-- what comes, handed to the slave; both forms of the packet call have one definition
unfoldable pub hear : Slave → Arrival → Result Report
hear s (packet form p tick limit) = packet_of s p tick limit
hear s (numbers p tick x) = numbers_of s p tick x

-- the slave that a call leaves, and a list of them: each call gets the slave that the last one left
unfoldable pub leave : Slave → Call → Slave
leave s (at t a) = (hear s a).slave
leave s (gap k) = (gap_of s k).slave

unfoldable pub slave_after : Slave → List Call → Slave
slave_after s [] = s
slave_after s (c ∷ cs) = slave_after (leave s c) cs

abbrev pub begun : Board → Slave
begun g = (start_of g).slave

-- ---- what is asked of a run

-- the places that the calls count: all but K refusals and empty packets
abbrev pub counting : Judgement → ℕ → List ℕ → List ℕ
counting Lost t ts = ts
counting (Refuse k) t ts = ts
counting (Counts k) t ts = t ∷ ts
counting (Takes x) t ts = t ∷ ts

unfoldable pub places : Board → Book → List Call → List ℕ
places g b [] = []
places g b (at t a ∷ cs) = counting (verdict_at g b a) t (places g (enter_call g b (at t a)) cs)
places g b (gap k ∷ cs) = places g (enter_call g b (gap k)) cs

-- they rise, from a least one on
abbrev pub Rise : ℕ → List ℕ → Type 0
Rise least [] = Unit {0}
Rise least (t ∷ ts) = (least ≤ t) × Rise (suc t) ts

-- a notice that is taken is the adapter's
abbrev pub Genuine : ℕ → Adapter → ℕ → Judgement → Type 0
Genuine n A t Lost = Unit {0}
Genuine n A t (Refuse k) = Unit {0}
Genuine n A t (Counts k) = Unit {0}
Genuine n A t (Takes x) = Wrote n A t x.pointer x.sts x.md

abbrev pub GenuineCall : Board → Adapter → Book → Call → Type 0
GenuineCall g A b (at t a) = Genuine g.n A t (verdict_at g b a)
GenuineCall g A b (gap k) = Unit {0}

abbrev pub AllGenuine : Board → Adapter → Book → List Call → Type 0
AllGenuine g A b [] = Unit {0}
AllGenuine g A b (c ∷ cs) = GenuineCall g A b c × AllGenuine g A (enter_call g b c) cs

pub record Run (g : Board) (A : Adapter) (calls : List Call) : Type 0 where
  pub accepted : settings_kept g ≡ true
  pub rising : Rise 0 (places g closed calls)
  pub genuine : AllGenuine g A closed calls
