-- What the words of a command line ask (docs/COMMANDS.md).
use Rattle.std.specs.Prelude.{ℕ, ◌+◌, ◌-◌, ◌*◌, Bool, true, false, not, ◌&&◌, nat_le, if◌then◌else◌, is_some, Option, Some, None, List, [], ◌∷◌, length, take, drop, codes}
use Rattle.std.specs.List.{list_all}
use Rattle.asm_text.specs.Entry.{entry_of}
use Rattle.beam_code.specs.declared.call.Limits.{Limits}
use Rattle.hipe_core.specs.declared.asking.Chosen.{Chosen}
use Rattle.hipe_core.specs.declared.asking.Chosen.TheVariants.{All}
use Rattle.hipe_core.specs.declared.asking.TheConstants.{REDUCTIONS_DEFAULT, WORDS_DEFAULT}
use Rattle.mode_switch.specs.declared.addresses.TheConstants.{MOST_REDUCTIONS, MOST_WORDS}
use Rattle.term_tree.specs.Name.{same_name}

-- a command with its words, or none: files to check; files to compile, with the functions that are to be native; or an
-- image, the entry of a call, its arguments and its limits
pub data Asked : Type 0 where
  Nothing : Asked
  Check : List (List ℕ) → Asked
  Compile : Chosen → List (List ℕ) → Asked
  Run : List ℕ → List ℕ → List ℕ → Limits → Asked

-- what stands behind the beginning of a word, where it begins so
abbrev pub behind : List ℕ → List ℕ → Option (List ℕ)
behind front word = if same_name (take (length front) word) front then Some (drop (length front) word) else None

-- a word that begins with two hyphens is an option
abbrev pub is_option : List ℕ → Bool
is_option word = is_some (behind (codes "--") word)

-- the words that are no options
abbrev pub others : List (List ℕ) → List (List ℕ)
others [] = []
others (w ∷ ws) = if is_option w then others ws else w ∷ others ws

-- the values of an option, by the beginning of its words
abbrev pub values : List ℕ → List (List ℕ) → List (List ℕ)
values option [] = []
values option (w ∷ ws) = elim (behind option w) [ None ↦ values option ws | Some v ↦ v ∷ values option ws ]

abbrev pub native_option : List ℕ
native_option = codes "--native="

abbrev pub reductions_option : List ℕ
reductions_option = codes "--reductions="

abbrev pub heap_option : List ℕ
heap_option = codes "--heap="

abbrev pub stack_option : List ℕ
stack_option = codes "--stack="

-- no option but those of the command, and `check` has none
abbrev pub fits_check : List ℕ → Bool
fits_check word = not (is_option word)

abbrev pub fits_compile : List ℕ → Bool
fits_compile word = if is_option word then is_some (behind native_option word) else true

abbrev pub fits_run : List ℕ → Bool
fits_run word =
    if is_option word then (if is_some (behind reductions_option word) then true else if is_some (behind heap_option word) then true else is_some (behind stack_option word))
    else true

abbrev pub is_digit : ℕ → Bool
is_digit d = nat_le 48 d && nat_le d 57

-- the number that these digits write behind those of `value`
abbrev pub number_after : ℕ → List ℕ → ℕ
number_after value [] = value
number_after value (d ∷ ds) = number_after (value * 10 + (d - 48)) ds

abbrev pub are_digits : List ℕ → Bool
are_digits [] = false
are_digits (d ∷ ds) = list_all is_digit (d ∷ ds)

-- the number that one or more digits write, if it is no more than `most`
abbrev pub number_in : ℕ → List ℕ → Option ℕ
number_in most ds = if are_digits ds && nat_le (number_after 0 ds) most then Some (number_after 0 ds) else None

-- a limit by the values of its option: at most one, and in its range
abbrev pub limit : ℕ → ℕ → List (List ℕ) → Option ℕ
limit default most [] = Some default
limit default most (v ∷ []) = number_in most v
limit default most (v ∷ w ∷ vs) = None

abbrev pub limits_with : Option ℕ → Option ℕ → Option ℕ → Option Limits
limits_with None heap stack = None
limits_with (Some r) None stack = None
limits_with (Some r) (Some h) None = None
limits_with (Some r) (Some h) (Some s) = Some (record { reductions = r; heap = h; stack = s })

abbrev pub limits_of : List (List ℕ) → Option Limits
limits_of words =
    limits_with (limit REDUCTIONS_DEFAULT MOST_REDUCTIONS (values reductions_option words)) (limit WORDS_DEFAULT MOST_WORDS (values heap_option words))
    (limit WORDS_DEFAULT MOST_WORDS (values stack_option words))

-- the one word of a list of one, and the three of a list of three
abbrev pub only_of : List (List ℕ) → Option (List ℕ)
only_of [] = None
only_of (a ∷ []) = Some a
only_of (a ∷ b ∷ ws) = None

pub record Three : Type 0 where
  pub first : List ℕ
  pub second : List ℕ
  pub third : List ℕ

abbrev pub three_of : List (List ℕ) → Option Three
three_of [] = None
three_of (a ∷ []) = None
three_of (a ∷ b ∷ []) = None
three_of (a ∷ b ∷ c ∷ []) = Some (record { first = a; second = b; third = c })
three_of (a ∷ b ∷ c ∷ d ∷ ws) = None

-- one file or more
abbrev pub check_with : List (List ℕ) → Asked
check_with [] = Nothing
check_with (f ∷ fs) = Check (f ∷ fs)

abbrev pub check_of : List (List ℕ) → Asked
check_of words = if list_all fits_check words then check_with (others words) else Nothing

abbrev pub compile_with : Option (List ℕ) → List (List ℕ) → Asked
compile_with None files = Nothing
compile_with (Some choice) [] = Nothing
compile_with (Some choice) (f ∷ fs) = if same_name choice (codes "all") then Compile All (f ∷ fs) else Nothing

abbrev pub compile_of : List (List ℕ) → Asked
compile_of words = if list_all fits_compile words then compile_with (only_of (values native_option words)) (others words) else Nothing

abbrev pub run_with : Option Limits → Option Three → Asked
run_with None words = Nothing
run_with (Some limits) None = Nothing
run_with (Some limits) (Some w) = if is_some (entry_of w.second) then Run w.first w.second w.third limits else Nothing

abbrev pub run_of : List (List ℕ) → Asked
run_of words = if list_all fits_run words then run_with (limits_of words) (three_of (others words)) else Nothing

abbrev pub asked : List (List ℕ) → Asked
asked [] = Nothing
asked (command ∷ words) =
    if same_name command (codes "check") then check_of words
    else if same_name command (codes "compile") then compile_of words
    else if same_name command (codes "run") then run_of words
    else Nothing
