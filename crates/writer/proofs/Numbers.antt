-- Numbers as bytes, read back.
use Rattle.std.proofs.Common.{◌≡◌, ℕ, ◌+◌, ◌*◌, ◌/◌, ◌%◌, ◌^◌, ◌<◌, List, ◌++◌, arith}
use Rattle.diameter.specs.Bytes.{be24, be32}
use Rattle.writer.specs.Bytes.{bytes24, bytes32}

pub be24_bytes24 : (x : ℕ) (rest : List ℕ) → x < 2 ^ 24 → be24 (bytes24 x ++ rest) 0 ≡ x
be24_bytes24 x rest h = omega arith

-- what is above the lowest byte
above : (x : ℕ) → (x / 65536 ≡ x / 256 / 256) × (x / 16777216 ≡ x / 256 / 65536)
above x = (omega arith, omega arith)

pub be32_bytes32 : (x : ℕ) (rest : List ℕ) → x < 2 ^ 32 → be32 (bytes32 x ++ rest) 0 ≡ x
be32_bytes32 x rest h =
    let p = above x in
    let k : ℕ = x / 256 in
    let small : k < 2 ^ 24 = omega arith in
    let high : k / 65536 % 256 * 65536 + k / 256 % 256 * 256 + k % 256 ≡ k = be24_bytes24 k rest small in
    let low : x ≡ k * 256 + x % 256 = omega arith in
    omega arith
