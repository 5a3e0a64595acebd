-- A gap-filler is one with a full board that gets a packet with a null packet's PID for each one above the limit (document 02, Paper 9).
use mathlib.Core.Path.{◌≡◌, refl, sym, ap, ◌∙◌}
use mathlib.Core.Bool.{Bool, true, false, cond}
use mathlib.Core.List.{List}
use Prim.Native.Nat.{ℕ, ◌≤◌}
use lib.Dec.{leb}
use borrow.Author.Tests.{leb-true, leb-false}
use Rattle.wire.specs.Reply.{Reply, refused, given}
use Rattle.wire.specs.Standards.{longest_addressing}
use Rattle.notice.specs.Mip.{individual_addressing_length}
use Rattle.notice.specs.Reader.{limit_of}
use Rattle.state.specs.declared.Slave.{Slave}
use Rattle.slave.specs.Answer.{Notice, Report, Result}
use Rattle.slave.specs.Calls.{packet_of, gap_of}
use Rattle.slave.specs.Limit.{nulled, reply_with}
use Rattle.slave.proofs.Limit.{full_board_alike, over_nulled}
use Rattle.run.specs.Book.{Form, Arrival, packet, numbers, Call, at, gap}
use Rattle.run.specs.Run.{hear, leave, slave_after}
use Rattle.run.specs.Filler.{for_full_board, call_for_full_board, calls_for_full_board, but_notice, OneByNulls}
use Rattle.run.proofs.Card.{all_alike}

-- another notice's part is left out too
left_out : (n : Notice) (r : Reply Report) → but_notice (reply_with n r) ≡ but_notice r
left_out n (refused k) = refl
left_out n (given r) = refl

-- one slave, and one reply but for the notice's part
record Alike (x y : Result Report) : Type 0 where
  slave : x.slave ≡ y.slave
  reply : but_notice x.reply ≡ but_notice y.reply

module _ (s : Slave) where
  packet_alike : (p : List ℕ) (tick limit : ℕ)
      → Alike (packet_of s (cond (leb (individual_addressing_length p) (limit_of limit)) p (nulled p)) tick longest_addressing) (packet_of s p tick limit)
  packet_alike p tick limit = go (leb (individual_addressing_length p) (limit_of limit)) refl
    where
      go : (b : Bool) → leb (individual_addressing_length p) (limit_of limit) ≡ b → Alike (packet_of s (cond b p (nulled p)) tick longest_addressing) (packet_of s p tick limit)
      go true e =
          let same = sym (full_board_alike s p tick limit (leb-true _ _ e)) in
          record { slave = ap (λ (r : Result Report). r.slave) same; reply = ap (λ (r : Result Report). but_notice r.reply) same }
      go false e =
          let same = over_nulled s p tick limit (leb-false _ _ e) longest_addressing in
          record {
            slave = sym (ap (λ (r : Result Report). r.slave) same);
            reply = sym (ap (λ (r : Result Report). but_notice r.reply) same ∙ left_out _ _);
          }

  heard_alike : (a : Arrival) → Alike (hear s (for_full_board a)) (hear s a)
  unfolding hear
  heard_alike (packet form p tick limit) = packet_alike p tick limit
  heard_alike (numbers p tick x) = record { slave = refl; reply = refl }

left_alike : (s : Slave) (c : Call) → leave s (call_for_full_board c) ≡ leave s c
unfolding leave
left_alike s (at t a) = (heard_alike s a).slave
left_alike s (gap k) = refl

slaves : (s : Slave) (cs : List Call) → slave_after s (calls_for_full_board cs) ≡ slave_after s cs
slaves = all_alike call_for_full_board left_alike

within : (s : Slave) (form : Form) (p : List ℕ) (tick limit : ℕ) → individual_addressing_length p ≤ limit_of limit
    → hear s (packet form p tick longest_addressing) ≡ hear s (packet form p tick limit)
unfolding hear
within s form p tick limit h = sym (full_board_alike s p tick limit h)

pub one_by_nulls : OneByNulls
one_by_nulls =
    record {
      slaves = slaves;
      replies = λ s before a. ap (λ (x : Slave). but_notice (hear x (for_full_board a)).reply) (slaves s before) ∙ (heard_alike (slave_after s before) a).reply;
      within = λ s before form p tick limit h.
          ap (λ (x : Slave). hear x (packet form p tick longest_addressing)) (slaves s before) ∙ within (slave_after s before) form p tick limit h;
      gaps = λ s before k. ap (λ (x : Slave). gap_of x k) (slaves s before);
    }
