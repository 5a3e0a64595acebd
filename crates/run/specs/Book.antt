-- The calls of a run, and the book (document 01, "Runs"): it is fed the calls and the start's settings alone, never a slave or its replies.
use Rattle.std.specs.Prelude.{ℕ, suc, Bool, true, ◌&&◌, List, [], ◌∷◌, ℤ, pos, ◌+ℤ◌, ◌-ℤ◌}
use Rattle.addressing.specs.declared.Settings.{Settings}
use Rattle.state.specs.Sound.{is_zero}
use Rattle.state.specs.declared.Board.{Board}
use Rattle.judging.specs.Judge.{judge_packet, judge_numbers}
use Rattle.judging.specs.Judgement.{Judgement, Lost, Refuse, Counts, Takes}
use Rattle.judging.specs.declared.Numbers.{Numbers}

-- ---- the calls

-- the two forms of the packet call: the new slave is given back, or the lent one is updated in its own memory
pub data Form : Type 0 where
  by_value : Form
  in_place : Form

-- what comes at a place; a packet comes with the limit of the board's reader, and an empty one in the place of one that was lost
pub data Arrival : Type 0 where
  packet : (form : Form) (bytes : List ℕ) (tick limit : ℕ) → Arrival
  numbers : (bytes : List ℕ) (tick : ℕ) → Numbers → Arrival

abbrev pub tick_of : Arrival → ℕ
tick_of (packet form p tick limit) = tick
tick_of (numbers p tick x) = tick

pub data Call : Type 0 where
  at : (place : ℕ) → Arrival → Call
  gap : ℕ → Call

-- how the papers' orders judge what comes
unfoldable pub judged : Board → Settings → Arrival → Judgement
judged g t (packet form p tick limit) = judge_packet g t p tick limit
judged g t (numbers p tick x) = judge_numbers g t p tick x

-- ---- the book

-- it opens at the first notice taken: s is the place counted last, u the number untold, `told` says that u was 0 at every packet counted since
-- the last notice taken, and OD is the one that the notices taken gave
pub data Book : Type 0 where
  closed : Book
  opened : (s : ℕ) (u : ℤ) (told : Bool) (od : ℤ) → Book

-- OD is 0 before
abbrev pub od_of : Book → ℤ
od_of closed = pos 0
od_of (opened s u told od) = od

-- the verdict on what comes, by the start's settings and the book's OD; frequency and power do not matter
unfoldable pub verdict_at : Board → Book → Arrival → Judgement
verdict_at g b a = judged g (record { od = od_of b; frequency = pos 0; power = 0 }) a

-- u at the place t: it grows by t − s − 1
unfoldable pub untold : ℕ → ℤ → ℕ → ℤ
untold s u t = u +ℤ (pos t -ℤ pos (suc s))

-- a counted place, with no notice taken
unfoldable pub count_place : Book → ℕ → Book
count_place closed t = closed
count_place (opened s u told od) t = opened t (untold s u t) (told && is_zero (untold s u t)) od

-- a gap of k: u falls by k
unfoldable pub tell_gap : Book → ℕ → Book
tell_gap closed k = closed
tell_gap (opened s u told od) k = opened s (u -ℤ pos k) told od

-- a place, by its verdict; an empty packet is a gap of one, and counts no place (document 02, Paper 5)
unfoldable pub enter : Book → ℕ → Judgement → Book
enter b t Lost = tell_gap b 1
enter b t (Refuse k) = b
enter b t (Counts k) = count_place b t
enter b t (Takes x) = opened t (pos 0) true x.settings.od

-- the book after a call, and after a list of them
unfoldable pub enter_call : Board → Book → Call → Book
enter_call g b (at t a) = enter b t (verdict_at g b a)
enter_call g b (gap k) = tell_gap b k

unfoldable pub book_after : Board → Book → List Call → Book
book_after g b [] = b
book_after g b (c ∷ cs) = book_after g (enter_call g b c) cs
