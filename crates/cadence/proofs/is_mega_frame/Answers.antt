-- An entry passes where it is n.
use mathlib.Core.Path.{sym, ap, ◌∙◌}
use Rattle.std.proofs.Common.{rules, tests, eqb}
use Rattle.std.specs.List.{list_any}
use Rattle.std.proofs.lemmas.Iterator.{YieldsList-from_slice}
use Rattle.std.proofs.lemmas.Iterator.Search.{any_from_yields_List}
use Rattle.cadence.proofs.Lengths.{mega_frames}
use Rattle.cadence.proofs.is_mega_frame.Goals as goal

pub returns : goal.returns
returns c =
    any_from_yields_List (eqb c.args.n) _ _ _ c.any.ensures.ran (YieldsList-from_slice c.as_flattened.result.now cc) (λ x b q k. search (rules, tests))
    ∙ ap (list_any (eqb c.args.n)) c.as_flattened.ensures.value
    ∙ sym (mega_frames c.args.n)
