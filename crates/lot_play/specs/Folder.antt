-- What contracts see of a folder, and what a read of it does. These rules are this project's own.
use Rattle.std.specs.Prelude.{◌≡◌, ℕ, ◌<◌, ◌≤◌, ◌↔◌, List, length, take, drop, Option, None, Some, fold, bytes_eq, if◌then◌else◌}

-- What a folder contains and counts: the content of each name, where it is known, the number of its faults, and the
-- number of bytes that its reads gave.
pub record FolderState : Type 0 where
  pub content : List ℕ → Option (List ℕ)
  pub faults : ℕ
  pub given : ℕ

-- The same content is known of each name.
abbrev pub SameContents : FolderState → FolderState → Type 0
SameContents old new = (name : List ℕ) → new.content name ≡ old.content name

-- The same names are served.
abbrev pub SameServed : (List ℕ → Type 0) → (List ℕ → Type 0) → Type 0
SameServed old new = (name : List ℕ) → old name ↔ new name

-- The first n bytes of a buffer are those of the content from a place on. There are none only at the end of the
-- content, or where the buffer has no room.
pub record ReadsInto (buffer content : List ℕ) (from n room : ℕ) : Type 0 where
  pub within : n ≤ length (drop from content)
  pub same : take n buffer ≡ take n (drop from content)
  pub some : n ≡ 0 → 0 < room → length content ≤ from

-- The entries of a folder in memory, in the order in which they were added, and the number of bytes that it gave.
pub record FolderEntries : Type 0 where
  pub entries : List (List ℕ × List ℕ)
  pub given : ℕ

-- The content of a name after one more entry.
abbrev pub with_entry : List ℕ → Option (List ℕ) → List ℕ × List ℕ → Option (List ℕ)
with_entry name before entry = if bytes_eq entry.0 name then Some entry.1 else before

-- The content of a name: that of its last entry.
abbrev pub content_of : List (List ℕ × List ℕ) → List ℕ → Option (List ℕ)
content_of entries name = fold (with_entry name) None entries
