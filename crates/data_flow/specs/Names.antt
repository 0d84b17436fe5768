-- Sets of names, as words (README.md, Names).
use Rattle.std.specs.Prelude.{◌≡◌, ℕ, ◌+◌, ◌-◌, ◌^◌, ◌<◌, Bool, ◌&&◌, nat_eq, bit_or, bit_and}
use Rattle.data_flow.specs.declared.names.Names.{Names}

unfoldable pub meet : Names → Names → Names
meet x y = record { a = bit_and x.a y.a; b = bit_and x.b y.b; c = bit_and x.c y.c; d = bit_and x.d y.d }

unfoldable pub join : Names → Names → Names
join x y = record { a = bit_or x.a y.a; b = bit_or x.b y.b; c = bit_or x.c y.c; d = bit_or x.d y.d }

unfoldable pub same : Names → Names → Bool
same x y = nat_eq x.a y.a && nat_eq x.b y.b && nat_eq x.c y.c && nat_eq x.d y.d

abbrev pub no_names : Names
no_names = record { a = 0; b = 0; c = 0; d = 0 }

-- each name of the first is one of the second
abbrev pub Within : Names → Names → Type 0
Within x y = meet x y ≡ x

pub record AreNames (n : Names) : Type 0 where
  pub a : n.a < 2 ^ 128
  pub b : n.b < 2 ^ 128
  pub c : n.c < 2 ^ 128
  pub d : n.d < 2 ^ 128

-- how far the words are from full
abbrev pub spare_names : Names → ℕ
spare_names n = (2 ^ 128 - n.a) + (2 ^ 128 - n.b) + (2 ^ 128 - n.c) + (2 ^ 128 - n.d)
