-- The records of an input, one after another: what is written of them, and what is still to come.
use mathlib.Core.Path.{◌≡◌, refl, sym, ap, subst, ◌∙◌}
use mathlib.Core.List.{List, [], ◌++◌, append_assoc, append-nil}
use Prim.Native.Nat.{ℕ, suc, ◌+◌, ◌-◌, ◌*◌, ◌≤◌, ◌<◌}
use native.Mathlib.Numerals.{add-one}
use native.Mathlib.Omega.{arith}
use lib.ListN.{length, take, drop, length-append, length-drop, take-append-drop}
use lib.Seq.{length-take-le, take_all, take_at, drop_at}
use Rattle.wire.specs.BigEndian.{be32_at}
use Rattle.slave.specs.Answer.{Report, Result}
use Rattle.wire.specs.Standards.{longest_addressing}
use Rattle.slave.specs.Calls.{packet_of}
use Rattle.state.specs.declared.Slave.{Slave}
use Rattle.text.specs.Rooms.{line_room}
use Rattle.text.specs.Line.{line_of}
use Rattle.text.specs.Puts.{Fronts, Puts}
use Rattle.text.proofs.Putting.{puts_length, nothing, front_then, refront}
use Rattle.lines.specs.Log.{tick_length, record_length, record_of, first_of, slave_behind, lines_of}
use Rattle.lines.specs.Pieces.{Handled}
use Rattle.lines.proofs.Capture.{record_whole}
use Rattle.lines.proofs.Calls.{slave_early, lines_early}

-- the first k records of i, from slave s on, leave some records `rest`, from slave t on: with their lines those that are written are all
pub record Going (s : Slave) (number : ℕ) (i : List ℕ) (k : ℕ) (out : List ℕ) (t : Slave) (next : ℕ) (rest out' : List ℕ) (end : ℕ) : Type 0 where
  pub left : ℕ
  pub whole : length rest ≡ record_length * left
  pub slave : slave_behind left t rest ≡ slave_behind k s i
  pub counted : next + left ≡ number + k
  pub text : List ℕ
  pub lines : text ++ lines_of left next t rest ≡ lines_of k number s i
  pub put : Fronts text out out' end
  pub room : end + line_room * left ≤ length out'

module _ (s : Slave) (number : ℕ) (i : List ℕ) (k : ℕ) (out : List ℕ) where
  -- none is written yet
  pub going_first : (n : ℕ) {rest : List ℕ} → rest ≡ take n i → n ≡ k * record_length → record_length * k ≤ length i → line_room * k ≤ length out
      → Going s number i k out s number rest out 0
  going_first n {rest} same e h room =
      let whole : length rest ≡ record_length * k = ap length same ∙ length-take-le n i (omega arith) ∙ omega arith in
      let all : rest ++ drop n i ≡ i = ap (λ (x : List ℕ). x ++ drop n i) same ∙ take-append-drop n i in
      record {
        left = k;
        whole = whole;
        slave = sym (slave_early k s rest (drop n i) (omega arith)) ∙ ap (slave_behind k s) all;
        counted = refl;
        text = [];
        lines = sym (lines_early k number s rest (drop n i) (omega arith)) ∙ ap (lines_of k number s) all;
        put = nothing out;
        room = omega arith;
      }

  module _ {t : Slave} {next : ℕ} {rest out' : List ℕ} {end : ℕ} (g : Going s number i k out t next rest out' end) where
    -- the next record is answered, and its line put behind the others
    pub going_on : (r : List ℕ) {rest' out'' : List ℕ} {tick end' : ℕ} {q : Result Report} → rest ≡ r ++ rest' → length r ≡ record_length → tick ≡ be32_at r 0
        → q ≡ packet_of t (take (length r - tick_length) (drop tick_length r)) tick longest_addressing
        → Puts line_room out' end (line_of next q.reply) out'' end'
        → Going s number i k out q.slave (next + 1) rest' out'' end'
    unfolding slave_behind lines_of
    going_on r {rest'} {q = q} split whole ticks packet put =
        let m : ℕ = g.left - 1 in
        let long : length rest ≡ length r + length rest' = ap length split ∙ length-append r rest' in
        let e : g.left ≡ suc m = omega (arith, g.whole) in
        let part : take (length r - tick_length) (drop tick_length r) ≡ drop tick_length r = take_all (length r - tick_length) (drop tick_length r) (omega (arith, length-drop tick_length r)) in
        let first : first_of rest ≡ r = ap first_of split ∙ take_at r rest' record_length whole in
        let behind : drop record_length rest ≡ rest' = ap (drop record_length) split ∙ drop_at r rest' record_length whole in
        let same : q ≡ record_of t (first_of rest) = packet ∙ (λ j. packet_of t (part j) (ticks j) longest_addressing) ∙ sym (record_whole t r whole) ∙ ap (record_of t) (sym first) in
        record {
          left = m;
          whole = omega (arith, g.whole);
          slave = (λ j. slave_behind m (same j).slave (sym behind j)) ∙ ap (λ (n : ℕ). slave_behind n t rest) (sym e) ∙ g.slave;
          counted = omega (arith, g.counted);
          text = g.text ++ line_of next q.reply;
          lines =
              append_assoc g.text (line_of next q.reply) (lines_of m (next + 1) q.slave rest')
              ∙ (λ j. g.text ++ (line_of next (same j).reply ++ lines_of m (add-one next j) (same j).slave (sym behind j)))
              ∙ ap (λ (n : ℕ). g.text ++ lines_of n next t rest) (sym e)
              ∙ g.lines;
          put = front_then g.put put;
          room = omega (arith, g.whole, put.ends, put.short, puts_length put (omega (arith, g.whole)));
        }

    -- all are written
    pub going_last : length rest < record_length → {n : ℕ} → n ≡ k * record_length → {all : List ℕ} → all ≡ out'
        → Handled s number i k out all (record { slave = t; number = next; used = n; filled = end })
    unfolding slave_behind lines_of
    going_last h e same =
        let none : g.left ≡ 0 = omega (arith, g.whole) in
        record {
          slave = ap (λ (m : ℕ). slave_behind m t rest) (sym none) ∙ g.slave;
          next = omega (arith, g.counted);
          used = omega arith;
          lines = refront (sym (append-nil g.text) ∙ ap (λ (m : ℕ). g.text ++ lines_of m next t rest) (sym none) ∙ g.lines) (subst (λ (x : List ℕ). Fronts g.text out x end) (sym same) g.put);
        }
