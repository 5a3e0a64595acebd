-- What a start and a packet call leave and reply, by what refuses them, and a notice that is written over a packet.
use mathlib.Core.Path.{◌≡◌, refl, sym, ap, ◌∙◌}
use mathlib.Core.Bool.{Bool, true, false, ◌||◌, cond}
use mathlib.Core.List.{List, ◌++◌, append-nil}
use Prim.Native.Nat.{ℕ, zero, suc, ◌+◌, ◌-◌, ◌≤◌}
use native.Mathlib.Omega.{arith}
use lib.Dec.{eqb}
use lib.ListN.{length, drop, replicate, length-replicate}
use Rattle.std.proofs.lemmas.List.{drop_all, drop-replicate}
use Rattle.wire.specs.Reply.{Reply, refused, given, reply, kept_by}
use Rattle.wire.specs.Put.{put_at}
use Rattle.wire.specs.Standards.{packet_length, mip_pid, longest_addressing}
use Rattle.wire.proofs.Puts.{put_fits}
use Rattle.wire.proofs.Tests.{given_zero}
use Rattle.times.specs.declared.Steps.{Steps}
use Rattle.notice.specs.Mip.{packet_identifier}
use Rattle.notice.specs.declared.Notice.{Notice}
use Rattle.writer.specs.Writable.{Writable}
use Rattle.writer.specs.Writer.{mip_of, put_of}
use Rattle.writer.proofs.Writing.{put_fitting}
use Rattle.inserter.specs.declared.Settings.{Settings}
use Rattle.inserter.specs.declared.Inserter.{Inserter}
use Rattle.inserter.specs.Settings.{settings_refusal, at_first, zeros, begun, started, start_of}
use Rattle.inserter.specs.Packet.{insert_refusal, null_pid, null_packet, cleared, is_null, handled, sent, unless_kept, insert_of}
use Rattle.inserter.specs.Ready.{Ready}
use Rattle.inserter.proofs.Judged.{accepted, ready_lem}

-- ---- the start

module _ (t : Settings) (f : List ℕ) where
  -- zeros behind a field that is put at the front of the room
  room_filled : length f ≤ longest_addressing → put_at (replicate longest_addressing 0) 0 f ≡ f ++ replicate (longest_addressing - length f) 0
  room_filled h =
      let none : 0 + length f ≡ length f = omega arith in
      let rest : drop (0 + length f) (replicate longest_addressing 0) ≡ drop (length f) (replicate longest_addressing 0) =
      ap (λ (k : ℕ). drop k (replicate longest_addressing 0)) none in
      put_fits (replicate longest_addressing 0) 0 f (omega (arith, length-replicate {A = ℕ} longest_addressing 0))
      ∙ ap (λ (x : List ℕ). f ++ x) (rest ∙ drop-replicate (length f) longest_addressing 0)

  pub start_refused : (k : ℕ) → refused k ≡ reply (settings_refusal t f) (tt {0}) → started zeros (refused k) ≡ start_of t f
  unfolding start_of
  start_refused k e = go (settings_refusal t f) e
    where
      go : (m : ℕ) → refused k ≡ reply m (tt {0}) → started zeros (refused k) ≡ started (kept_by m zeros (begun t f)) (reply m tt)
      go zero h = let z : ◌≡◌ {A = ℕ} 0 1 = cc in absurd (omega arith)
      go (suc m) h = ap (started zeros) h

  pub start_accepted : (d : List ℕ) → ◌≡◌ {A = Reply (Unit {0})} (given (tt {0})) (reply (settings_refusal t f) (tt {0}))
      → d ≡ put_at (replicate longest_addressing 0) 0 f
      → started (record { settings = t; progress = at_first; length = length f; field = d }) (given tt) ≡ start_of t f
  unfolding start_of
  start_accepted d e h =
      let z : settings_refusal t f ≡ 0 = (given_zero _ (tt {0}) (tt {0}) (sym e)).0 in
      let k = accepted t f z in
      ap (λ (x : List ℕ). started (record { settings = t; progress = at_first; length = length f; field = x }) (given tt)) (h ∙ room_filled k.short)
      ∙ ap (λ (m : ℕ). started (kept_by m zeros (begun t f)) (reply m tt)) (sym z)

-- ---- the packet

-- it can leave as the notice by its own PID
pub null_by : (p : List ℕ) → is_null p ≡ (eqb (packet_identifier p) mip_pid || eqb (packet_identifier p) null_pid)
unfolding cleared null_packet
null_by p = go (eqb (packet_identifier p) mip_pid)
  where
    go : (b : Bool) → eqb (packet_identifier (cond b null_packet p)) null_pid ≡ (b || eqb (packet_identifier p) null_pid)
    go true = refl
    go false = refl

-- a notice that fits is put over all of a packet
pub notice_put : (p d : List ℕ) (n : Notice) (f : List ℕ) → d ≡ put_of p n f → Writable (length p) n f → length p ≡ packet_length → d ≡ mip_of n f
notice_put p d n f e w h =
    e ∙ put_fitting n f p w ∙ ap (λ (x : List ℕ). mip_of n f ++ x) (drop_all packet_length p (omega (arith, h))) ∙ append-nil (mip_of n f)

-- ---- the packet call

module _ (s : Inserter) (p : List ℕ) (sts : Steps) where
  pub ready : ◌≡◌ {A = Reply (Unit {0})} (given (tt {0})) (reply (insert_refusal s p sts) (tt {0})) → Ready s p sts
  ready e = ready_lem s p sts (given_zero _ (tt {0}) (tt {0}) (sym e)).0

  pub insert_kept : (k : ℕ) → refused k ≡ reply (insert_refusal s p sts) (tt {0}) → handled s p (refused k) ≡ insert_of s p sts
  unfolding insert_of
  insert_kept k e = go (insert_refusal s p sts) e
    where
      go : (m : ℕ) → refused k ≡ reply m (tt {0}) → handled s p (refused k) ≡ unless_kept s p m (sent s p sts)
      go zero h = let z : ◌≡◌ {A = ℕ} 0 1 = cc in absurd (omega arith)
      go (suc m) h = let z : k ≡ suc m = cc in ap (λ (x : ℕ). handled s p (refused x)) z

  pub insert_sent : ◌≡◌ {A = Reply (Unit {0})} (given (tt {0})) (reply (insert_refusal s p sts) (tt {0})) → sent s p sts ≡ insert_of s p sts
  unfolding insert_of
  insert_sent e =
      let z : insert_refusal s p sts ≡ 0 = (given_zero _ (tt {0}) (tt {0}) (sym e)).0 in
      ap (λ (m : ℕ). unless_kept s p m (sent s p sts)) (sym z)
