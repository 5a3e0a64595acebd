-- The reckoned examples of document 01, each with what the definitions compute for it and what the papers state: P3 and P4 as document 02 has them.
use Rattle.std.specs.Prelude.{ℕ, ◌≡◌, List, [], ◌∷◌, map, ℤ, pos, negsuc}
use Rattle.wire.specs.Standards.{dvb_second, a110_second}
use Rattle.check_value.specs.Register.{register}
use Rattle.times.specs.Release.{reference, emission, modulation, wait_of, due_of}
use Rattle.cadence.specs.Cadence.{length_of}
use Rattle.cadence.specs.Label.{label_of}
use Rattle.cadence.specs.MobileFrame.{mobile_place}
use Rattle.cadence.specs.declared.Constellation.TheVariants.{Qam64}
use Rattle.cadence.specs.declared.CodeRate.TheVariants.{SevenEighths}
use Rattle.addressing.specs.Functions.{no_settings}
use Rattle.state.specs.Slave.{unknown}
use Rattle.state.specs.declared.Slave.{Slave}
use Rattle.slave.specs.Answer.{Mark, due, mark_number, mark_lateness}
use Rattle.slave.specs.Step.{locked_at}
use Rattle.slave.specs.Gap.{gapped}

-- an example's number, the values that the definitions compute, and those that its paper states
pub record Example : Type 0 where
  pub number : ℕ
  pub computed : List ℤ
  pub stated : List ℤ

abbrev pub example : ℕ → List ℤ → List ℤ → Example
example k c s = record { number = k; computed = c; stated = s }

-- P3's mark, of STS 9,500,000 and MD 700,000, that comes at this tick
abbrev pub p3_mark : ℕ → Mark
p3_mark arrival = due 0 (due_of dvb_second 9_500_000 700_000 (pos 0) 0 arrival)

-- P8's slave: profile 0, n 2016, next label 2010, with a pending notice
abbrev pub near_mark : Slave
near_mark =
    record {
      board = record { profile = 0; n = 2016; site = 7; tad = 0 };
      settings = no_settings;
      count = locked_at 2010 unknown;
      waiting = record { pending = 1; sts = 9_500_000; md = 700_000 };
    }

unfoldable pub table : List Example
table =
    -- STS 9,500,000, MD 700,000, OD and TAD 0, arrival 9,900,000: emission and wait
    example 1
    (pos (emission dvb_second 9_500_000 700_000 (pos 0)) ∷ wait_of dvb_second 9_500_000 700_000 (pos 0) 0 9_900_000 ∷ [])
    (pos 200_000 ∷ pos 300_000 ∷ [])
    -- arrival 200,000: wait
    ∷ example 2
    (wait_of dvb_second 9_500_000 700_000 (pos 0) 0 200_000 ∷ [])
    (pos 0 ∷ [])
    -- arrival 200,001: late, 14, by 1 (Paper 3), where 200,000 was not
    ∷ example 3
    (pos (mark_number (p3_mark 200_001)) ∷ pos (mark_lateness (p3_mark 200_001)) ∷ pos (mark_number (p3_mark 200_000)) ∷ [])
    (pos 14 ∷ pos 1 ∷ pos 0 ∷ [])
    -- STS 9,300,000, MD 700,000, OD 0: reference and emission (Paper 2)
    ∷ example 4
    (pos (reference dvb_second 9_300_000 700_000) ∷ pos (emission dvb_second 9_300_000 700_000 (pos 0)) ∷ [])
    (pos 0 ∷ pos 0 ∷ [])
    -- STS 9,999,000, MD 1,100, OD 0, TAD 200, arrival 9,999,500: modulation and wait
    ∷ example 5
    (pos (modulation dvb_second (emission dvb_second 9_999_000 1_100 (pos 0)) 200) ∷ wait_of dvb_second 9_999_000 1_100 (pos 0) 200 9_999_500 ∷ [])
    (pos 9_999_900 ∷ pos 400 ∷ [])
    -- profile 1, STS 19,392,657, MD 63,740, OD −32,768, TAD 1,000: emission and modulation
    ∷ example 6
    (pos (emission a110_second 19_392_657 63_740 (negsuc 32_767)) ∷ pos (modulation a110_second (emission a110_second 19_392_657 63_740 (negsuc 32_767)) 1_000) ∷ [])
    (pos 30_971 ∷ pos 29_971 ∷ [])
    -- n 2016, pointers 0 and 2015: labels
    ∷ example 7
    (pos (label_of 2016 0) ∷ pos (label_of 2016 2015) ∷ [])
    (pos 2015 ∷ pos 0 ∷ [])
    -- n 2016, next label 2010, a pending notice; gaps of 6 and 7: next label and pending
    ∷ example 8
    (pos (gapped near_mark 6).count.next ∷ pos (gapped near_mark 6).waiting.pending ∷ pos (gapped near_mark 7).count.next ∷ pos (gapped near_mark 7).waiting.pending ∷ [])
    (pos 0 ∷ pos 1 ∷ pos 1 ∷ pos 0 ∷ [])
    -- 64-QAM 7/8: n
    ∷ example 9
    (pos (length_of Qam64 SevenEighths) ∷ [])
    (pos 10_584 ∷ [])
    -- M/H index 19, p 623: place
    ∷ example 10
    (pos (mobile_place 19 623) ∷ [])
    (pos 36 ∷ [])
    -- the check register after ASCII 123456789
    ∷ example 11
    (pos (register (0x31 ∷ 0x32 ∷ 0x33 ∷ 0x34 ∷ 0x35 ∷ 0x36 ∷ 0x37 ∷ 0x38 ∷ 0x39 ∷ [])) ∷ [])
    (pos 0x0376_E6E7 ∷ [])
    ∷ []

-- in every example of a table the paper states what is computed
abbrev pub Holds : List Example → Type 0
Holds t = map (λ (e : Example). e.computed) t ≡ map (λ (e : Example). e.stated) t
