-- Numbers in a grammar file: unsigned LEB128 of the least length (DWARF 5, section 7.6).
use Rattle.std.specs.Prelude.{◌≡◌, ◌⊎◌, ◌≤◌, ◌<◌, ℕ, zero, suc, ◌+◌, ◌*◌, ◌/◌, ◌%◌, nat_lt, if◌then◌else◌, List, [], ◌∷◌}

-- seven bits a byte, the lowest first, and 128 more in each byte but the last; at most so many bytes
abbrev pub bytes_within : ℕ → ℕ → List ℕ
bytes_within zero n = []
bytes_within (suc most) n = if nat_lt n 128 then n ∷ [] else ((128 + n % 128) ∷ bytes_within most (n / 128))

-- 300 is 172 2; a number n has at most n + 1 bytes
unfoldable pub number_bytes : ℕ → List ℕ
number_bytes n = bytes_within (suc n) n

-- the bytes of one number: each but the last is from 128 to 255, and the last is below 128
abbrev pub AreOneNumber : List ℕ → Type 0
AreOneNumber [] = ⊥
AreOneNumber (b ∷ bs) = ((b < 128) × (bs ≡ [])) ⊎ ((128 ≤ b) × (b < 256) × AreOneNumber bs)

-- which number bytes are: the low seven bits of the first, and 128 times what the others are
abbrev pub number_of : List ℕ → ℕ
number_of [] = 0
number_of (b ∷ bs) = b % 128 + 128 * number_of bs
