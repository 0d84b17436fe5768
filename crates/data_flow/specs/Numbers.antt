-- The number by which a point is looked up: points that differ seldom share it.
use Rattle.std.specs.Prelude.{ℕ, ◌*◌, ◌/◌, ◌%◌, ◌^◌, bit_xor}
use Rattle.data_flow.specs.declared.flow.Point.{Point}

abbrev pub spread : ℕ → ℕ
spread hash = bit_xor hash (hash / 2 ^ 29)

abbrev pub mixed : ℕ → ℕ → ℕ
mixed hash word = spread (bit_xor (bit_xor hash (word % 2 ^ 64)) (word / 2 ^ 64) * 0x9E37_79B9_7F4A_7C15 % 2 ^ 64)

abbrev pub number_of : Point → ℕ
number_of p = mixed (mixed (mixed (mixed (bit_xor (p.item * 2 ^ 32 % 2 ^ 64) p.count) p.names.a) p.names.b) p.names.c) p.names.d
