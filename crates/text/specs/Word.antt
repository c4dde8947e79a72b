-- What a word may hold.
use Rattle.std.specs.Prelude.{◌≡◌, ℕ, ◌≤◌, Bool, cond, ◌&&◌, ◌||◌, ◌⊎◌, List, length, Some, None, Option, ◌==◌, nat_le}
use Rattle.std.specs.List.{AllByRecursion, list_all}
use Rattle.text.specs.declared.word.WordCause.{WordCause}
use Rattle.text.specs.declared.word.WordCause.TheVariants.{BadByte, BadLength}

-- a-z, 0-9 or hyphen
abbrev pub PlainByte : ℕ → Type 0
PlainByte b = ((97 ≤ b) × (b ≤ 122)) ⊎ (((48 ≤ b) × (b ≤ 57)) ⊎ (b ≡ 45))

-- each byte is a-z, 0-9 or hyphen
abbrev pub Plain : List ℕ → Type 0
Plain w = AllByRecursion PlainByte w

-- a word that has no fault by itself
abbrev pub Fine : List ℕ → Type 0
Fine w = Plain w × ((1 ≤ length w) × (length w ≤ 16))

-- what is wrong with a word by itself: its bytes come before its length
abbrev pub Wrong : List ℕ → WordCause → Type 0
Wrong w BadByte = Plain w → ⊥
Wrong w BadLength = Plain w × (((1 ≤ length w) × (length w ≤ 16)) → ⊥)

-- the same as tests
abbrev pub plain_byte : ℕ → Bool
plain_byte b = (nat_le 97 b && nat_le b 122) || ((nat_le 48 b && nat_le b 57) || b == 45)

abbrev pub plain : List ℕ → Bool
plain w = list_all plain_byte w

-- what is wrong with a word by itself, as a function
abbrev pub cause_of : List ℕ → Option WordCause
cause_of w = cond (plain w) (cond (nat_le 1 (length w) && nat_le (length w) 16) None (Some BadLength)) (Some BadByte)

-- the number by which a cause is told
abbrev pub cause_number : WordCause → ℕ
cause_number BadByte = 4
cause_number BadLength = 5
