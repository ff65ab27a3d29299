-- What a byte may be, and a test of every byte of a part.
use Rattle.std.specs.Prelude.{ℕ, Bool, ◌&&◌, ◌||◌, List, ◌==◌, nat_le}
use Rattle.std.specs.List.{list_all}

-- a digit is a byte from 48 to 57
abbrev pub is_digit : ℕ → Bool
is_digit b = nat_le 48 b && nat_le b 57

-- a text byte is 32 to 126 or 160 to 255
abbrev pub is_text : ℕ → Bool
is_text b = (nat_le 32 b && nat_le b 126) || (nat_le 160 b && nat_le b 255)

-- a blank is byte 32
abbrev pub is_blank : ℕ → Bool
is_blank b = b == 32

-- whether each byte of the part passes the test
abbrev pub every : (ℕ → Bool) → List ℕ → Bool
every p bs = list_all p bs
