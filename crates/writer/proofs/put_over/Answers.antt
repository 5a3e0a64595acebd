-- Each byte goes behind those that stand there, and the last one ends the piece.
use Rattle.std.proofs.Common.{◌≡◌, ◌∙◌, ap, arith, append-nil, sym, ℕ, ◌+◌, ◌<◌, ◌++◌, List, length, get_or}
use Rattle.std.proofs.Math.ListN.{set}
use Rattle.std.proofs.Math.Seq.{paste}
use Rattle.std.proofs.lemmas.List.{drop_all}
use Rattle.std.proofs.lemmas.List.Edits.{paste_more, paste_all}
use Rattle.writer.proofs.put_over.Goals as goal

-- one byte more of s stands over the front of d
more : (d s : List ℕ) (k : ℕ) → k < length d → k < length s → set (paste d 0 s k) k (get_or s k 0) ≡ paste d 0 s (k + 1)
more d s k h i = let z : 0 + k ≡ k = omega arith in ap (λ (j : ℕ). set (paste d 0 s k) j (get_or s k 0)) (sym z) ∙ paste_more d 0 s k 0 (omega arith) i

pub loop-k-preserved : goal.loop-k-preserved
loop-k-preserved c =
    let k = c.loop-k.k in
    ap (λ (l : List ℕ). set l k (get_or c.args.src.now k 0)) c.loop-k.invariant ∙ more c.args.dst.now c.args.src.now k (omega arith) (omega arith)

pub returns : goal.returns
returns c =
    let d = c.args.dst.now in
    let s = c.args.src.now in
    c.loop-k.invariant ∙ paste_all d 0 s c.loop-k.k (omega arith) ∙ ap (λ (t : List ℕ). s ++ t) (drop_all (0 + c.loop-k.k) d (omega arith)) ∙ append-nil s
