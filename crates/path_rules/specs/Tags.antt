-- The tagged y registers of a path, as a list with the lowest first (docs/BEAM.md, Paths).
use Rattle.std.specs.Prelude.{ℕ, ◌-◌, Bool, true, false, ◌&&◌, not, Option, Some, None, List, [], ◌∷◌, ◌++◌, map, filter, nat_eq, nat_lt}
use Rattle.std.specs.List.{list_any, list_all}
use Rattle.beam_code.specs.declared.instr.Place.{Place}
use Rattle.beam_code.specs.declared.instr.Place.TheVariants.{Y}
use Rattle.beam_code.specs.State as state
use Rattle.beam_code.specs.Uses.{same_place}
use Rattle.path_rules.specs.declared.tag.Tag.{Tag}
use Rattle.path_rules.specs.declared.tag.TagKind.{TagKind}
use Rattle.path_rules.specs.declared.tag.TagKind.TheVariants.{Try, Catch}

-- the kind of the mark that a tagged y register holds
abbrev pub mark_kind : TagKind → state.TagKind
mark_kind Try = state.OfTry
mark_kind Catch = state.OfCatch

-- a tag in the place of one of the same y register, with the lower ones before it and the higher ones behind it
abbrev pub tagged : Tag → List Tag → List Tag
tagged t tags = filter (λ u. nat_lt u.y t.y) tags ++ t ∷ filter (λ u. nat_lt t.y u.y) tags

-- without the tag of a y register
abbrev pub untagged : ℕ → List Tag → List Tag
untagged y tags = filter (λ t. not (nat_eq t.y y)) tags

abbrev pub is_touched : List Place → ℕ → Bool
is_touched places y = list_any (same_place (Y y)) places

-- without the tags of places that take a value
abbrev pub untouched : List Place → List Tag → List Tag
untouched places tags = filter (λ t. not (is_touched places t.y)) tags

abbrev pub moved_down : ℕ → Tag → Tag
moved_down n t = record t { y = t.y - n }

-- where the first n y registers go, and the others take their places
abbrev pub trimmed : ℕ → List Tag → List Tag
trimmed n tags = map (moved_down n) (filter (λ t. not (nat_lt t.y n)) tags)

abbrev pub lowest_tag : List Tag → Option Tag
lowest_tag [] = None
lowest_tag (t ∷ ts) = Some t

abbrev pub is_untagged : List Tag → ℕ → Bool
is_untagged tags y = list_all (λ t. not (nat_eq t.y y)) tags

abbrev pub same_kind : TagKind → TagKind → Bool
same_kind Try Try = true
same_kind Catch Catch = true
same_kind _ _ = false

abbrev pub same_tag : Tag → Tag → Bool
same_tag t u = nat_eq t.y u.y && same_kind t.kind u.kind && nat_eq t.label u.label

abbrev pub same_tags : List Tag → List Tag → Bool
same_tags [] [] = true
same_tags (t ∷ ts) (u ∷ us) = same_tag t u && same_tags ts us
same_tags _ _ = false
