-- The size of an atom without its text: the characters between its quotes are counted in place of being kept.
use Rattle.std.proofs.Common.{◌≡◌, ◌≢◌, ℕ, ◌+◌, ◌-◌, ◌<◌, ◌≤◌, Bool, true, false, nat_lt, if◌then◌else◌, List, [], ◌∷◌, ◌++◌, length, take, Option, Some, None, encode_utf8, refl, sym, ap, ◌∙◌, length-append}
use Rattle.std.specs.Char.{IsScalar}
use Rattle.std.specs.Str.{IsUtf8, chars}
use Rattle.std.specs.Option.{option_map}
use Rattle.std.proofs.lemmas.List.{append-nil, length-take-le}
use Rattle.std.proofs.lemmas.Str.{chars-nil, chars-append, chars-IsAscii, chars_from_encodes, IsUtf8-nil, IsUtf8-append, IsUtf8-encode}
use Rattle.term_tree.specs.Name.{characters_in}
use Rattle.term_tree.specs.declared.name.TheConstants.{MOST_CHARACTERS}
use Rattle.text_tokens.specs.declared.token.Reason.TheVariants.{Syntax}
use Rattle.text_tokens.specs.declared.token.Token.TheVariants as k
use Rattle.text_tokens.specs.declared.token.Piece.TheVariants as p
use Rattle.text_tokens.specs.Character.{between_quotes, quoted_character, run}
use Rattle.text_tokens.specs.Pieces.{is_name_byte, atom, quoted, bare_atom}
use Rattle.text_tokens.proofs.Bytes.{run-ascii}
use Rattle.text_tokens.proofs.Longest.{run-within}
use Rattle.text_tokens.proofs.Quotes.{quotes-skip, quotes-close, quotes-bad, quotes-more}
use Rattle.asm_text.specs.Entry.{atom_piece, sized, quoted_size}

-- the count of the characters of a text, with what is left behind it
abbrev counts : List ℕ × ℕ → ℕ × ℕ
counts inside = (characters_in inside.0, inside.1)

-- some text of so many characters stands before the rest of the bytes between the quotes
pub record Counted (quote skip count : ℕ) (rest bytes : List ℕ) : Type 0 where
  pub got : List ℕ
  pub utf8 : IsUtf8 got
  pub many : characters_in got ≡ count
  pub same : between_quotes quote skip got rest ≡ between_quotes quote 0 [] bytes

pub counted-none : (quote : ℕ) (bytes : List ℕ) → Counted quote 0 0 bytes bytes
counted-none quote bytes = record { got = []; utf8 = IsUtf8-nil; many = ap length chars-nil; same = refl }

pub counted-skip : (quote skip count : ℕ) (bs bytes : List ℕ) (b : ℕ) (rest : List ℕ) → Counted quote skip count bs bytes → bs ≡ b ∷ rest → 0 < skip →
    Counted quote (skip - 1) count rest bytes
counted-skip quote skip count bs bytes b rest before e h =
    record { got = before.got; utf8 = before.utf8; many = before.many; same = sym (quotes-skip quote skip before.got bs b rest e h) ∙ before.same }

-- a character alone
chars-one : (code : ℕ) → IsScalar code → characters_in (encode_utf8 code) ≡ 1
chars-one code h = sym (ap length (chars_from_encodes (code ∷ []) (encode_utf8 code) (IsUtf8-encode code h) (append-nil (encode_utf8 code))))

one_more : (got : List ℕ) (code : ℕ) → IsUtf8 got → IsScalar code → characters_in (got ++ encode_utf8 code) ≡ characters_in got + 1
one_more got code u h =
    ap length (chars-append got (encode_utf8 code) u) ∙ length-append (chars got) (chars (encode_utf8 code)) ∙ ap (λ n. length (chars got) + n) (chars-one code h)

pub counted-more : (quote skip count : ℕ) (bs bytes : List ℕ) (b : ℕ) (rest : List ℕ) (code size : ℕ) → Counted quote skip count bs bytes → bs ≡ b ∷ rest → skip ≤ 0 → b ≢ quote →
    quoted_character bs ≡ Some (code, size) → IsScalar code → Counted quote (size - 1) (count + 1) rest bytes
counted-more quote skip count bs bytes b rest code size before e h other is scalar =
    record {
      got = before.got ++ encode_utf8 code;
      utf8 = IsUtf8-append before.got (encode_utf8 code) before.utf8 (IsUtf8-encode code scalar);
      many = one_more before.got code before.utf8 scalar ∙ ap (λ n. n + 1) before.many;
      same = sym (quotes-more quote skip before.got bs b rest code size e h other is) ∙ before.same;
    }

pub counted-close : (quote skip count : ℕ) (bs bytes : List ℕ) (b : ℕ) (rest : List ℕ) → Counted quote skip count bs bytes → bs ≡ b ∷ rest → skip ≤ 0 → b ≡ quote →
    Some (count, length rest) ≡ option_map counts (between_quotes quote 0 [] bytes)
counted-close quote skip count bs bytes b rest before e h same =
    sym (ap (λ n. Some (n, length rest)) before.many)
    ∙ ap (option_map counts) (sym (quotes-close quote skip before.got bs b rest e h same) ∙ before.same)

pub counted-bad : (quote skip count : ℕ) (bs bytes : List ℕ) (b : ℕ) (rest : List ℕ) → Counted quote skip count bs bytes → bs ≡ b ∷ rest → skip ≤ 0 → b ≢ quote →
    quoted_character bs ≡ None → None ≡ option_map counts (between_quotes quote 0 [] bytes)
counted-bad quote skip count bs bytes b rest before e h other none =
    ap (option_map counts) (sym (quotes-bad quote skip before.got bs b rest e h other none) ∙ before.same)

pub counted-end : (quote skip count : ℕ) (bs bytes : List ℕ) → Counted quote skip count bs bytes → bs ≡ [] →
    None ≡ option_map counts (between_quotes quote 0 [] bytes)
counted-end quote skip count bs bytes before e =
    ap (option_map counts) (sym (ap (λ all. between_quotes quote skip before.got all) e) ∙ before.same)

-- ---- atoms

atom-size : (text : List ℕ) (size : ℕ) → option_map (λ a. a.1) (atom_piece (atom text size)) ≡ sized (characters_in text) size
atom-size text size = go (nat_lt MOST_CHARACTERS (characters_in text))
  where
    go : (long : Bool) → option_map (λ a. a.1) (atom_piece (if long then p.Bad Syntax else p.Whole (k.Atom text) size)) ≡ (if long then None else Some size)
    go true = refl
    go false = refl

pub quoted-size : (size : ℕ) (inside : Option (List ℕ × ℕ)) → option_map (λ a. a.1) (atom_piece (quoted 39 size inside)) ≡ quoted_size size (option_map counts inside)
unfolding quoted
quoted-size size None = refl
quoted-size size (Some (text, left)) = atom-size text (size - left)

bare-characters : (bs : List ℕ) → characters_in (take (run is_name_byte bs) bs) ≡ run is_name_byte bs
bare-characters bs =
    ap length (chars-IsAscii (take (run is_name_byte bs) bs) (λ i. run-ascii bs i)) ∙ length-take-le (run is_name_byte bs) bs (run-within is_name_byte bs)

pub bare-size : (bs : List ℕ) → option_map (λ a. a.1) (atom_piece (bare_atom bs)) ≡ sized (run is_name_byte bs) (run is_name_byte bs)
unfolding bare_atom
bare-size bs = atom-size (take (run is_name_byte bs) bs) (run is_name_byte bs) ∙ ap (λ n. sized n (run is_name_byte bs)) (bare-characters bs)

pub ruleset size_steps = (quoted-size, bare-size)

pub ruleset count_steps = (counted-none, counted-skip, counted-more, counted-close, counted-bad, counted-end)
