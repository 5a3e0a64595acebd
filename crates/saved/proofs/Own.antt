-- The block that a slave makes, of either body, with any bytes in front: what stands in it is that slave's.
use mathlib.Core.Path.{◌≡◌, refl, sym, ap, ◌∙◌}
use mathlib.Core.Bool.{true}
use mathlib.Core.List.{List, ◌++◌, append_assoc}
use Prim.Native.Nat.{ℕ, ◌+◌, ◌-◌, ◌≤◌, ◌<◌}
use native.Mathlib.Omega.{arith}
use lib.ListN.{length, drop, length-append}
use lib.Seq.{drop-append_seam, drop-append-add}
use Rattle.std.proofs.lemmas.Bool.Decides.{nat_tests}
use Rattle.wire.specs.Reply.{given}
use Rattle.wire.specs.BigEndian.{be16_at, bytes16, bytes32}
use Rattle.wire.proofs.Numbers.{spelled16}
use Rattle.wire.proofs.Bytes.{Bytes, and_bytes, bytes_16, bytes_32}
use Rattle.check_value.specs.Register.{register}
use Rattle.check_value.proofs.Sealing.{sealed_length}
use Rattle.check_value.proofs.Laws.{leaves_zero}
use Rattle.state.specs.Sound.{sound}
use Rattle.state.specs.declared.Board.{Board}
use Rattle.state.specs.declared.Slave.{Slave}
use Rattle.state.proofs.Sound.{settings_kept_lem}
use Rattle.slave.specs.Answer.{left}
use Rattle.saved.specs.Layout.{Body, whole, old, length_of, body_of, had_in, slave_in}
use Rattle.saved.specs.Block.{trailer_length, block_length, covered_of, block_of, trailer, trailer_site, distance, body_at, shaped, from_body, held, block_fits, same_board, resumed}
use Rattle.saved.proofs.Body.{Fits, body_bytes, slave_back}
use Rattle.saved.proofs.Fitting.{fits_sound}
use Rattle.saved.proofs.Answers.{covered_length, resume_held}

-- which body it is, its distance says
pub body_again_at : (body : Body) → body_at (length_of body) ≡ body
body_again_at whole = refl
body_again_at old = refl

at_least : (body : Body) → length_of old ≤ length_of body
at_least whole = omega arith
at_least old = omega arith

pub own_board : (b : Board) → same_board b b ≡ true
unfolding same_board
own_board b = grind (arith, nat_tests)

module _ (body : Body) (s : Slave) where
  pub block_length_lem : length (block_of body s) ≡ block_length body
  unfolding block_of
  block_length_lem = sealed_length (covered_of body s) ∙ omega (arith, covered_length body s, at_least body)

  module _ (f : Fits s) where
    site_fits : s.board.site < 65536
    site_fits = let all = f.fields in grind (arith, nat_tests)

    pub block_bytes : Bytes (block_of body s)
    unfolding block_of covered_of
    block_bytes =
        let far : List ℕ = bytes16 (length_of body) in
        and_bytes (covered_of body s) (bytes32 (register (covered_of body s)))
        (and_bytes (body_of body s ++ bytes16 s.board.site) far (and_bytes (body_of body s) (bytes16 s.board.site) (body_bytes body s f) (bytes_16 s.board.site)) (bytes_16 (length_of body)))
        (bytes_32 (register (covered_of body s)))

    module _ (front : List ℕ) where
      abbrev pub lent : List ℕ
      lent = front ++ block_of body s

      behind_length : length lent ≡ length front + block_length body
      behind_length = length-append front (block_of body s) ∙ ap (λ (k : ℕ). length front + k) block_length_lem

      own_trailer : trailer lent ≡ drop (length_of body) (block_of body s)
      own_trailer =
          let k : length lent - trailer_length ≡ length front + length_of body = omega (arith, behind_length) in
          ap (λ (j : ℕ). drop j lent) k ∙ drop-append-add front (block_of body s) (length_of body)

      far_in : (body : Body) → be16_at (drop (length_of body) (block_of body s)) 2 ≡ length_of body
      unfolding block_of covered_of body_of
      far_in whole = refl
      far_in old = refl

      site_in : (body : Body) → be16_at (drop (length_of body) (block_of body s)) 0 ≡ s.board.site
      unfolding block_of covered_of body_of
      site_in whole = spelled16 s.board.site site_fits
      site_in old = spelled16 s.board.site site_fits

      pub own_distance : distance lent ≡ length_of body
      own_distance = ap (λ (t : List ℕ). be16_at t 2) own_trailer ∙ far_in body

      own_site : trailer_site lent ≡ s.board.site
      own_site = ap (λ (t : List ℕ). be16_at t 0) own_trailer ∙ site_in body

      own_shape : shaped lent ≡ true
      unfolding shaped
      own_shape = let least = at_least body in grind (arith, nat_tests, own_distance, behind_length)

      own_body : from_body lent ≡ block_of body s
      unfolding from_body
      own_body =
          let k : length lent - trailer_length - distance lent ≡ length front = omega (arith, own_distance, behind_length) in
          ap (λ (j : ℕ). drop j lent) k ∙ drop-append_seam front (block_of body s)

      own_check : register (from_body lent) ≡ 0
      unfolding block_of
      own_check = ap register own_body ∙ leaves_zero (covered_of body s)

      -- read by this body, it is the slave as the body has it
      pub own_slave : slave_in body (from_body lent) ≡ had_in body s
      unfolding block_of covered_of
      own_slave =
          let x : List ℕ = body_of body s in
          let y : List ℕ = bytes16 s.board.site in
          let z : List ℕ = bytes16 (length_of body) in
          let w : List ℕ = bytes32 (register (covered_of body s)) in
          ap (slave_in body) (own_body ∙ append_assoc (x ++ y) z w ∙ append_assoc x y (z ++ w)) ∙ slave_back s f body (y ++ (z ++ w))

      pub held_own : held lent ≡ had_in body s
      held_own =
          ap (λ (d : ℕ). slave_in (body_at d) (from_body lent)) own_distance
          ∙ ap (λ (x : Body). slave_in x (from_body lent)) (body_again_at body)
          ∙ own_slave

      -- so it resumes, read as any sound slave of these settings
      module _ (t : Slave) (ok : sound t ≡ true) (same : t.board ≡ s.board) where
        pub own_fits : block_fits t lent ≡ true
        own_fits = sym (fits_sound t lent own_shape own_check (own_site ∙ sym (ap (λ (b : Board). b.site) same))) ∙ ok

        pub own_resumed : resumed t lent s.board ≡ left t (given tt)
        own_resumed =
            ap (resumed t lent) (sym same)
            ∙ resume_held t lent t.board (settings_kept_lem t ok) own_fits (own_board t.board)
