-- The pieces that the writer puts one over the other are the packet.
use mathlib.Core.Path.{◌≡◌, refl, sym, ap, ap₂, ◌∙◌}
use mathlib.Core.Bool.{true}
use mathlib.Core.List.{List, ◌++◌, append_assoc}
use Prim.Native.Nat.{ℕ, ◌+◌, ◌-◌, ◌≤◌}
use native.Mathlib.Omega.{arith}
use lib.ListN.{length, drop, length-append, length-replicate}
use lib.Seq.{take_at, drop_at, drop-drop, drop-append-add}
use Rattle.std.proofs.lemmas.List.{drop-append-le, drop-replicate}
use Rattle.wire.specs.Standards.{packet_length, longest_addressing, dvb_second}
use Rattle.wire.specs.Reply.{Reply, given, reply}
use Rattle.wire.proofs.Tests.{given_zero, given_output}
use Rattle.check_value.specs.Register.{sealed, sealed_at}
use borrow.Rule.Slice.PartMut.{put_mid}
use Rattle.std.proofs.lemmas.Slice.{overwrites}
use Rattle.std.proofs.lemmas.Bool.Decides.{nat_tests}
use borrow.Author.Rules.{rules}
use borrow.Author.Tests.{le-leb}
use Rattle.check_value.proofs.Sealing.{seal_fits}
use Rattle.times.specs.Release.{in_second}
use Rattle.addressing.specs.Entries.{well_formed}
use Rattle.writer.specs.Writable.{Writable}
use Rattle.writer.specs.Writer.{write_refusal, head_of, fields_of, stuffing, mip_of, fits, put_of, write_of}
use Rattle.notice.specs.declared.Notice.{Notice}

pub fields_length : (n : Notice) (f : List ℕ) → length (fields_of n f) ≡ 21 + length f
unfolding fields_of head_of
fields_length n f = length-append (head_of n (length f)) f

pub length_stuffing : (k : ℕ) → length (stuffing k) ≡ k
length_stuffing k = length-replicate {A = ℕ} k 255

-- k bytes behind p are written over
over : (p t x : List ℕ) (at k : ℕ) → length p ≡ at → put_mid at k (p ++ t) x ≡ p ++ (x ++ drop k t)
over p t x at k e = search (rules, overwrites, take_at, drop_at)

-- and four bytes by the check value of p
over_sealed : (p t : List ℕ) (end : ℕ) → length p ≡ end → 4 ≤ length t → sealed_at end (p ++ t) ≡ sealed p ++ drop 4 t
over_sealed p t end e h =
    seal_fits end (p ++ t) (omega (arith, length-append p t))
    ∙ ap₂ (λ (x y : List ℕ). sealed x ++ y) (take_at p t end e) (ap (λ (j : ℕ). drop (j + 4) (p ++ t)) (sym e) ∙ drop-append-add p t 4)

-- stuffing that is written over at its front
drop_stuffing : (k m : ℕ) (t : List ℕ) → drop k (stuffing (k + m) ++ t) ≡ stuffing m ++ t
drop_stuffing k m t =
    drop-append-le k (stuffing (k + m)) t (omega (arith, length_stuffing (k + m)))
    ∙ ap (λ (x : List ℕ). x ++ t) (drop-replicate k (k + m) 255 ∙ ap stuffing (omega arith))

-- the whole packet: the head, stuffing, and over it the addressing field and the check value
pub packet_put : (n : Notice) (f d d' : List ℕ) → length f ≤ 163 → 188 ≤ length d
    → d' ≡ sealed_at (21 + length f) (put_mid 21 (21 + length f - 21) (put_mid 21 167 (head_of n (length f) ++ drop 21 d) (stuffing 167)) f)
    → d' ≡ mip_of n f ++ drop 188 d
unfolding mip_of fields_of head_of
packet_put n f d d' short room e =
    let a = length f in
    let m = 163 - a in
    let h = head_of n a in
    let t = drop 188 d in
    let front : put_mid 21 167 (h ++ drop 21 d) (stuffing 167) ≡ h ++ (stuffing 167 ++ t) =
    over h (drop 21 d) (stuffing 167) 21 167 refl ∙ ap (λ (x : List ℕ). h ++ (stuffing 167 ++ x)) (drop-drop 167 21 d) in
    let k : 21 + a - 21 ≡ a = omega arith in
    let most : 167 ≡ a + (4 + m) = omega arith in
    let field : put_mid 21 (21 + a - 21) (h ++ (stuffing 167 ++ t)) f ≡ fields_of n f ++ (stuffing (4 + m) ++ t) =
    ap₂ (λ (i j : ℕ). put_mid 21 i (h ++ (stuffing j ++ t)) f) k most
    ∙ over h (stuffing (a + (4 + m)) ++ t) f 21 a refl ∙ ap (λ (x : List ℕ). fields_of n f ++ x) (drop_stuffing a (4 + m) t) in
    e
    ∙ ap (λ (x : List ℕ). sealed_at (21 + a) (put_mid 21 (21 + a - 21) x f)) front
    ∙ ap (sealed_at (21 + a)) field
    ∙ over_sealed (fields_of n f) (stuffing (4 + m) ++ t) (21 + a) (fields_length n f) (omega (arith, length-append (stuffing (4 + m)) t, length_stuffing (4 + m)))
    ∙ ap (λ (x : List ℕ). sealed (fields_of n f) ++ x) (drop_stuffing 4 m t)
    ∙ sym (append_assoc (sealed (fields_of n f)) (stuffing m) t)

-- it is put where it fits
pub put_fitting : (n : Notice) (f d : List ℕ) → Writable (length d) n f → put_of d n f ≡ mip_of n f ++ drop 188 d
unfolding put_of fits
put_fitting n f d w =
    rw (le-leb packet_length (length d) w.room, le-leb n.continuity 15 w.counter, le-leb n.reserved 32767 w.bits, le-leb (length f) longest_addressing w.short) refl

-- an accepted write gives it
pub written : (n : Notice) (f d d' : List ℕ) → ◌≡◌ {A = Reply (Unit {0})} (given (tt {0})) (reply (write_refusal (length d) n f) (tt {0}))
    → d' ≡ mip_of n f ++ drop 188 d → record { reply = given tt; bytes = d' } ≡ write_of d n f
unfolding write_of
written n f d d' r e =
    let z : write_refusal (length d) n f ≡ 0 = (given_zero _ (tt {0}) (tt {0}) (sym r)).0 in
    ap (λ (x : List ℕ). record { reply = given tt; bytes = x }) e ∙ sym (given_output _ d _ z)

-- what a write that no number refuses has passed
pub judged : (space : ℕ) (n : Notice) (f : List ℕ) → write_refusal space n f ≡ 0
    → Writable space n f × (well_formed f ≡ true) × (in_second dvb_second n.sts.0 ≡ true) × (in_second dvb_second n.md.0 ≡ true)
unfolding write_refusal
judged space n f e = (
  record {
    room = grind (arith, nat_tests);
    counter = grind (arith, nat_tests);
    bits = grind (arith, nat_tests);
    short = grind (arith, nat_tests);
  },
  grind (arith, nat_tests),
  grind (arith, nat_tests),
  grind (arith, nat_tests),
)

-- and what passes all of it is refused by no number
pub write_none : (space : ℕ) (n : Notice) (f : List ℕ) → Writable space n f → well_formed f ≡ true → in_second dvb_second n.sts.0 ≡ true
    → in_second dvb_second n.md.0 ≡ true → 0 ≡ write_refusal space n f
unfolding write_refusal
write_none space n f w form sts md = grind (arith, nat_tests)
