-- An inserter's settings, what a start makes of them, and which inserters are sound (document 02, Paper 1).
use Rattle.std.specs.Prelude.{ℕ, ◌-◌, Bool, ◌&&◌, ◌||◌, List, ◌++◌, length, take, replicate, eqb, leb, ltb}
use Rattle.wire.specs.Reply.{Reply, must, reply, kept_by}
use Rattle.wire.specs.Standards.{packet_length, longest_addressing}
use Rattle.times.specs.declared.Steps.{Steps}
use Rattle.cadence.specs.Cadence.{admits}
use Rattle.cadence.specs.Label.{pointer_of}
use Rattle.notice.specs.declared.Notice.{Notice}
use Rattle.writer.specs.Writer.{write_refusal}
use Rattle.inserter.specs.declared.Settings.{Settings}
use Rattle.inserter.specs.declared.Progress.{Progress}
use Rattle.inserter.specs.declared.Inserter.{Inserter}

-- the notice that is put at this label, with this counter and the STS given
abbrev pub notice_at : Settings → (label continuity : ℕ) → Steps → Notice
notice_at t label continuity sts = record {
  continuity = continuity;
  pointer = pointer_of t.n label;
  periodic = eqb t.periodic 1;
  reserved = t.reserved;
  sts = sts;
  md = t.md;
  tps = t.tps;
}

-- the addressing field: the first bytes of the room that an inserter has for one
abbrev pub field_of : Inserter → List ℕ
field_of s = take s.length s.field

-- ---- the start

-- 15 (n, no cadence of profile 0), then what a write of the first notice would refuse: 19, 8, 10, 11. A flag that is not one bit is a field too wide, 19
unfoldable pub settings_refusal : Settings → List ℕ → ℕ
settings_refusal t field =
    must (admits 0 t.n) 15
    (must (leb t.periodic 1) 19
    (write_refusal packet_length (notice_at t 0 0 (record { 0 = 0 })) field))

-- the first packet has label 0, and the counter starts at 0
abbrev pub at_first : Progress
at_first = record { label = 0; placed = 0; continuity = 0 }

abbrev pub begun : Settings → List ℕ → Inserter
begun t field = record {
  settings = t;
  progress = at_first;
  length = length field;
  field = field ++ replicate (longest_addressing - length field) 0;
}

-- zeros, which a refused start gives
abbrev pub zeros : Inserter
zeros = record {
  settings = record { n = 0; periodic = 0; reserved = 0; md = record { 0 = 0 }; tps = 0 };
  progress = at_first;
  length = 0;
  field = replicate longest_addressing 0;
}

-- what a start leaves and replies
pub record Started : Type 0 where
  pub inserter : Inserter
  pub reply : Reply (Unit {0})

abbrev pub started : Inserter → Reply (Unit {0}) → Started
started s r = record { inserter = s; reply = r }

unfoldable pub start_of : Settings → List ℕ → Started
start_of t field =
    let k : ℕ = settings_refusal t field in
    started (kept_by k zeros (begun t field)) (reply k tt)

-- ---- soundness

-- a label of the mega-frame, a flag, and a counter of four bits; at label 0 no notice is put yet
unfoldable pub progress_fits : ℕ → Progress → Bool
progress_fits n p = ltb p.label n && leb p.placed 1 && leb p.continuity 15 && (eqb p.placed 0 || ltb 0 p.label)

-- the ranges of an inserter's parts: settings that a start accepts, and such a place in the mega-frame. Bytes of the room behind the field are not read
unfoldable pub sound : Inserter → Bool
sound s = leb s.length longest_addressing && progress_fits s.settings.n s.progress && eqb (settings_refusal s.settings (field_of s)) 0
