-- What the code says of what the words ask (docs/COMMANDS.md).
use Rattle.std.specs.Prelude.{ℕ, ◌≡◌, ◌+◌, ◌-◌, ◌*◌, ◌&&◌, nat_le, if◌then◌else◌, Option, Some, None, List, [], ◌∷◌, is_some, ◌<◌, length, map, string_bytes, true}
use Rattle.asm_text.specs.Entry.{entry_of}
use Rattle.hipe_core.specs.declared.asking.Asked as code
use Rattle.hipe_core.specs.declared.asking.Asked.TheVariants as a
use Rattle.hipe_core.specs.declared.asking.RunWords as words
use Rattle.mode_switch.specs.Call.{IsInRange}
use Rattle.hipe_core.specs.Words.{Asked, Nothing, Check, Compile, Run, Three, is_digit, others}

-- the code's answer is that
abbrev pub IsAsked : code.Asked → Asked → Type 0
IsAsked a.Nothing q = q ≡ Nothing
IsAsked (a.Check words) q = q ≡ Check (others (map string_bytes words.now))
IsAsked (a.Compile chosen words) q = (q ≡ Compile chosen (others (map string_bytes words.now))) × (0 < length (others (map string_bytes words.now)))
IsAsked (a.Run image entry args limits) q = (q ≡ Run image.now entry.now args.now limits) × (is_some (entry_of entry.now) ≡ true) × IsInRange limits

-- the code tells the three words
abbrev pub three_in : Option words.RunWords → Option Three
three_in None = None
three_in (Some w) = Some (record { first = w.image.now; second = w.entry.now; third = w.args.now })

-- the number, digit by digit, until it passes `most`
abbrev pub number_from : ℕ → ℕ → List ℕ → Option ℕ
number_from most value [] = Some value
number_from most value (d ∷ ds) =
    if is_digit d && nat_le (value * 10 + (d - 48)) most then number_from most (value * 10 + (d - 48)) ds else None
