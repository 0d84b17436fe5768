-- Lists of tags that are the same are of one length.
use Rattle.std.proofs.Common.{◌≡◌, ◌≢◌, suc, false, ◌&&◌, Bool, true, refl, ap, List, [], ◌∷◌, length}
use Rattle.path_rules.specs.declared.tag.Tag.{Tag}
use Rattle.path_rules.specs.Tags.{same_tag, same_tags}

pub other_lengths : (a b : List Tag) → length a ≢ length b → same_tags a b ≡ false
other_lengths [] [] other = absurd (other refl)
other_lengths [] (u ∷ us) other = refl
other_lengths (t ∷ ts) [] other = refl
other_lengths (t ∷ ts) (u ∷ us) other = behind (same_tag t u) (other_lengths ts us (λ e. other (ap suc e)))
  where
    behind : (b : Bool) → same_tags ts us ≡ false → (b && same_tags ts us) ≡ false
    behind true e = e
    behind false e = refl
