-- What the files in memory hold, and what a read of them gives: this crate's README, "Stand-ins".
use Rattle.std.specs.Prelude.{◌≡◌, ℕ, ◌==◌, Bool, List, [], ◌∷◌, ◌++◌, length, drop, min, slice_index_or, Option, Some, None, Result, Ok, Err, is_some, unwrap_or, if◌then◌else◌}
use Rattle.std.specs.Option.{option_or}
use Rattle.std.specs.Cmp.Lexicographic.{pointwise}
use Rattle.hipe_base.specs.Count.{counted}
use Rattle.hipe_base.specs.Files.{Held}
use Rattle.hipe_base.specs.declared.outside.Failed.{Failed}

-- a file's name and its bytes
pub record NamedBytes : Type 0 where
  pub name : List ℕ
  pub bytes : List ℕ

-- the files in the order in which they were added; the most bytes that one read gives; the bytes left
-- of the open file; the number of bytes that the reads gave
pub record FileStore : Type 0 where
  pub files : List NamedBytes
  pub piece : ℕ
  pub left : Option (List ℕ)
  pub taken : ℕ

-- a file with the name `other` is the one that is called `name`
abbrev pub is_named : List ℕ → List ℕ → Bool
is_named name other = pointwise ◌==◌ other name

-- the bytes of the file that was last added with this name
abbrev pub bytes_of : List NamedBytes → List ℕ → Option (List ℕ)
bytes_of [] name = None
bytes_of (file ∷ files) name =
    option_or (bytes_of files name) (if is_named name file.name then Some file.bytes else None)

-- the bytes of the file at a place
abbrev pub bytes_at : List NamedBytes → ℕ → List ℕ
bytes_at files place = (slice_index_or files place (record { name = []; bytes = [] })).bytes

-- the bytes that are left from an offset on, of the file at a place
abbrev pub left_at : List NamedBytes → Option ℕ → ℕ → Option (List ℕ)
left_at files None offset = None
left_at files (Some place) offset = Some (drop offset (bytes_at files place))

-- no files, none of them open
abbrev pub no_files : ℕ → FileStore
no_files piece = record { files = []; piece = piece; left = None; taken = 0 }

-- one more file; the open file is read on
abbrev pub with_file : FileStore → List ℕ → List ℕ → FileStore
with_file store name bytes =
    record store { files = store.files ++ record { name = name; bytes = bytes } ∷ [] }

-- what is held at this name is replaced, and at no other
abbrev pub Replaces : List NamedBytes → List NamedBytes → List ℕ → List ℕ → Type 0
Replaces files files' name bytes =
    (other : List ℕ)
    → bytes_of files' other ≡ (if is_named other name then Some bytes else bytes_of files other)

-- the files as they are told
abbrev pub held_in : FileStore → Held
held_in store = Some (λ name. bytes_of store.files name)

-- the bytes left, none where no file is open
abbrev pub left_in : FileStore → List ℕ
left_in store = unwrap_or store.left []

-- no file is open
abbrev pub after_close : FileStore → FileStore
after_close store = record store { left = None }

-- the files after an open
abbrev pub after_open : FileStore → List ℕ → FileStore
after_open store name = record store { left = bytes_of store.files name }

-- the answer to an open, which fails where there is no file of this name
abbrev pub open_answer : FileStore → List ℕ → Result Unit Failed
open_answer store name = if is_some (bytes_of store.files name) then Ok tt else Err record {}

-- the number of bytes that a read into n places gives
abbrev pub read_count : FileStore → ℕ → ℕ
read_count store n = min n (min store.piece (length (left_in store)))

-- the files after a read of n bytes
abbrev pub after_read : FileStore → ℕ → FileStore
after_read store n =
    record store { left = Some (drop n (left_in store)); taken = counted store.taken n }
