-- The records of an input, one after another: what they give, and what is still to come.
use mathlib.Core.Path.{◌≡◌, sym, ap, ◌∙◌, subst}
use mathlib.Core.List.{List, [], ◌++◌, append_assoc, append-nil}
use Prim.Native.Nat.{ℕ, suc, ◌+◌, ◌-◌, ◌*◌, ◌/◌, ◌≤◌, ◌<◌, min}
use native.Mathlib.Nat.{mul-suc}
use native.Mathlib.Nat.{min-le_left, zero-add}
use native.Mathlib.Omega.{arith}
use lib.ListN.{length, take, drop, length-append, length-drop, take-append-drop}
use lib.Seq.{length-take-le, take_at, drop_at}
use Rattle.std.specs.List.{copy_within}
use Rattle.std.proofs.lemmas.List.{take_min}
use Rattle.std.proofs.lemmas.Slice.{between_is}
use Rattle.wire.specs.Standards.{packet_length}
use Rattle.text.specs.Puts.{Fronts, Puts}
use Rattle.text.proofs.Putting.{puts_length, nothing, front_then, refront}
use Rattle.inserting.specs.declared.Insertion.{Insertion}
use Rattle.inserting.specs.declared.Taken.{Taken}
use Rattle.inserting.specs.Records.{record_length, insertion_after, packet_of, line_of, first_of, behind, all_of}
use Rattle.inserting.specs.Pieces.{line_room, handled_in, Handled, TakesPiece}
use Rattle.inserting.proofs.Records.{behind_early, all_early}

-- of the first k records of i, from s on, some are left: from t on, `left` records in `rest`. What those before them give is put, and there is room for more
pub record Given (gives : Insertion → List ℕ → List ℕ) (room : ℕ) (s : Insertion) (i : List ℕ) (k : ℕ) (out : List ℕ) (left : ℕ) (t : Insertion) (rest out' : List ℕ) (end : ℕ) : Type 0 where
  pub text : List ℕ
  pub all : text ++ all_of gives left t rest ≡ all_of gives k s i
  pub put : Fronts text out out' end
  pub fits : end + room * left ≤ length out'

pub record Going (s : Insertion) (i : List ℕ) (k : ℕ) (out err : List ℕ) (t : Insertion) (rest out' : List ℕ) (end : ℕ) (err' : List ℕ) (stop : ℕ) : Type 0 where
  pub left : ℕ
  pub whole : length rest ≡ record_length * left
  pub insertion : behind left t rest ≡ behind k s i
  pub packets : Given packet_of packet_length s i k out left t rest out' end
  pub lines : Given line_of line_room s i k err left t rest err' stop

module _ (s : Insertion) (i : List ℕ) (k : ℕ) (rest : List ℕ) (n : ℕ) (same : rest ≡ take n i) (e : n ≡ k * record_length) (h : record_length * k ≤ length i) where
  whole : length rest ≡ record_length * k
  whole = ap length same ∙ length-take-le n i (omega arith) ∙ omega arith

  all : rest ++ drop n i ≡ i
  all = ap (λ (x : List ℕ). x ++ drop n i) same ∙ take-append-drop n i

  given_first : (gives : Insertion → List ℕ → List ℕ) (room : ℕ) {out : List ℕ} → room * k ≤ length out → Given gives room s i k out k s rest out 0
  given_first gives room {out} l =
      record {
        text = [];
        all = sym (all_early gives k s rest (drop n i) (omega (arith, whole))) ∙ ap (all_of gives k s) all;
        put = nothing out;
        fits = rw (zero-add (room * k)) l;
      }

  -- none is handled yet
  pub going_first : {out err : List ℕ} → packet_length * k ≤ length out → line_room * k ≤ length err → Going s i k out err s rest out 0 err 0
  going_first a b =
      record {
        left = k;
        whole = whole;
        insertion = sym (behind_early k s rest (drop n i) (omega (arith, whole))) ∙ ap (behind k s) all;
        packets = given_first packet_of packet_length a;
        lines = given_first line_of line_room b;
      }

-- the next record gives something, which is put behind the rest
given_on : {gives : Insertion → List ℕ → List ℕ} {room : ℕ} {s : Insertion} {i : List ℕ} {k : ℕ} {out : List ℕ} {left m : ℕ} {t : Insertion} {rest out' : List ℕ} {end : ℕ} {r : List ℕ} {t' : Insertion} {rest' out'' : List ℕ} {end' : ℕ}
    → Given gives room s i k out left t rest out' end → left ≡ suc m → first_of rest ≡ r → drop record_length rest ≡ rest' → t' ≡ insertion_after t r
    → Puts room out' end (gives t r) out'' end' → Given gives room s i k out m t' rest' out'' end'
unfolding all_of
given_on {gives} {room} {left = left} {m = m} {t = t} {rest = rest} {out' = out'} {end = end} {r = r} {t' = t'} {rest' = rest'} g e first behind after put =
    let more : room * left ≡ room * m + room = ap (λ (n : ℕ). room * n) e ∙ mul-suc room m in
    let enough : end + room ≤ length out' = omega (arith, more, g.fits) in
    record {
      text = g.text ++ gives t r;
      all =
          append_assoc g.text (gives t r) (all_of gives m t' rest')
          ∙ (λ j. g.text ++ (gives t (sym first j) ++ all_of gives m ((after ∙ ap (insertion_after t) (sym first)) j) (sym behind j)))
          ∙ ap (λ (n : ℕ). g.text ++ all_of gives n t rest) (sym e)
          ∙ g.all;
      put = front_then g.put put;
      fits = omega (arith, more, g.fits, put.ends, put.short, puts_length put enough);
    }

-- all is put
given_last : {gives : Insertion → List ℕ → List ℕ} {room : ℕ} {s : Insertion} {i : List ℕ} {k : ℕ} {out : List ℕ} {left : ℕ} {t : Insertion} {rest out' : List ℕ} {end : ℕ} {d : List ℕ}
    → Given gives room s i k out left t rest out' end → left ≡ 0 → d ≡ out' → Fronts (all_of gives k s i) out d end
unfolding all_of
given_last {gives} {out = out} {t = t} {rest = rest} {end = end} g none same =
    refront (sym (append-nil g.text) ∙ ap (λ (n : ℕ). g.text ++ all_of gives n t rest) (sym none) ∙ g.all)
    (subst (λ (x : List ℕ). Fronts g.text out x end) (sym same) g.put)

module _ {s : Insertion} {i : List ℕ} {k : ℕ} {out err : List ℕ} {t : Insertion} {rest out' : List ℕ} {end : ℕ} {err' : List ℕ} {stop : ℕ} (g : Going s i k out err t rest out' end err' stop) where
  pub going_on : (r : List ℕ) {rest' : List ℕ} {t' : Insertion} {out'' : List ℕ} {end' : ℕ} {err'' : List ℕ} {stop' : ℕ}
      → rest ≡ r ++ rest' → length r ≡ record_length → t' ≡ insertion_after t r
      → Puts packet_length out' end (packet_of t r) out'' end' → Puts line_room err' stop (line_of t r) err'' stop'
      → Going s i k out err t' rest' out'' end' err'' stop'
  unfolding behind
  going_on r {rest'} split whole after packet line =
      let m : ℕ = g.left - 1 in
      let long : length rest ≡ length r + length rest' = ap length split ∙ length-append r rest' in
      let e : g.left ≡ suc m = omega (arith, g.whole) in
      let first : first_of rest ≡ r = ap first_of split ∙ take_at r rest' record_length whole in
      let then : drop record_length rest ≡ rest' = ap (drop record_length) split ∙ drop_at r rest' record_length whole in
      record {
        left = m;
        whole = omega (arith, g.whole);
        insertion =
            (λ j. behind m ((after ∙ ap (insertion_after t) (sym first)) j) (sym then j)) ∙ ap (λ (n : ℕ). behind n t rest) (sym e) ∙ g.insertion;
        packets = given_on g.packets e first then after packet;
        lines = given_on g.lines e first then after line;
      }

  -- all are handled
  pub going_last : length rest < record_length → {n : ℕ} → n ≡ k * record_length → {d f : List ℕ} → d ≡ out' → f ≡ err'
      → Handled s i k out d err f t (record { packets = end; lines = stop; held = length i - n })
  unfolding behind
  going_last h {n} e a b =
      let none : g.left ≡ 0 = omega (arith, g.whole) in
      record {
        insertion = ap (λ (m : ℕ). behind m t rest) (sym none) ∙ g.insertion;
        packets = given_last g.packets none a;
        lines = given_last g.lines none b;
        held = omega (arith, length-drop (record_length * k) i);
      }

-- ---- a piece that stands in a buffer

-- the bytes from `from` to `to` carried to the front
pub carried : (d : List ℕ) (from to : ℕ) → from ≤ to → to ≤ length d → Fronts (drop from (take to d)) d (copy_within d from to 0) (to - from)
carried d from to h within =
    let part : take (to - from) (drop from d) ≡ drop from (take to d) = between_is d from to in
    let len : to - from ≡ length (drop from (take to d)) = omega (arith, length-drop from (take to d), length-take-le to d within) in
    record { bytes = (λ j. part j ++ drop (zero-add (to - from) j) d) ∙ ap (λ (n : ℕ). drop from (take to d) ++ drop n d) len; ends = len }

-- no more records are handled than are whole
pub handled_bytes : (bytes room err : ℕ) → record_length * handled_in bytes room err ≤ bytes
unfolding handled_in
handled_bytes bytes room err = omega (arith, min-le_left (bytes / record_length) (min (room / packet_length) (err / line_room)))

-- a piece in the first n bytes of a buffer is handled, and what is left of it carried to the front
pub piece_taken : (n : ℕ) {s : Insertion} {e : ℕ} {d d' out out' err err' : List ℕ} {s' : Insertion} {t : Taken} → e ≡ min n (length d)
    → Handled s (take e d) (handled_in (length (take e d)) (length out) (length err)) out out' err err' s' t
    → d' ≡ copy_within d (e - t.held) e 0
    → TakesPiece s n d d' out out' err err' s' t
piece_taken n {s} {e} {d} {d'} {out} {out'} {err} {err'} {s'} {t} least handled copied =
    let k : ℕ → ℕ = λ bytes. handled_in bytes (length out) (length err) in
    let same : take e d ≡ take n d = ap (λ (j : ℕ). take j d) least ∙ take_min n d in
    let len : length (take e d) ≡ e = length-take-le e d (omega arith) in
    let whole : record_length * k (length (take e d)) ≤ length (take e d) = handled_bytes (length (take e d)) (length out) (length err) in
    let from : e - t.held ≡ record_length * k (length (take e d)) = omega (arith, handled.held, length-drop (record_length * k (length (take e d))) (take e d)) in
    let held : e - (e - t.held) ≡ t.held = omega (arith, handled.held, length-drop (record_length * k (length (take e d))) (take e d)) in
    let front : Fronts (drop (e - t.held) (take e d)) d (copy_within d (e - t.held) e 0) (e - (e - t.held)) = carried d (e - t.held) e (omega arith) (omega arith) in
    record {
      handled = subst (λ (x : List ℕ). Handled s x (k (length x)) out out' err err' s' t) same handled;
      rest =
          subst (λ (x : List ℕ). Fronts (drop (record_length * k (length x)) x) d d' t.held) same
          (refront (ap (λ (j : ℕ). drop j (take e d)) from)
          (subst (λ (x : List ℕ). Fronts (drop (e - t.held) (take e d)) d x t.held) (sym copied)
          (subst (λ (j : ℕ). Fronts (drop (e - t.held) (take e d)) d (copy_within d (e - t.held) e 0) j) held front)));
    }
