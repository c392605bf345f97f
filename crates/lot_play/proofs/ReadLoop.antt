-- A loop that reads a content piece by piece.
use Rattle.std.proofs.Common.{◌≡◌, ℕ, ◌+◌, ◌<◌, ◌≤◌, List, [], ◌++◌, length, take, drop, Some, sym, refl, ap, ◌∙◌, subst, append_assoc, arith, inl, inr, length-append}
use Rattle.std.proofs.Math.Seq.{drop-append_seam}
use Rattle.std.proofs.lemmas.List.{take-append-drop, append-nil, length-take-le, nil_from_length}
use Rattle.lot_play.specs.Count.{RoseBy, RoseAbove}
use Rattle.lot_play.specs.Folder.{FolderState, SameContents, SameServed, ReadsInto}

-- The bytes are a prefix of the content.
abbrev pub IsPrefixOf : List ℕ → List ℕ → Type 0
IsPrefixOf bytes content = (rest : List ℕ) × (content ≡ bytes ++ rest)

-- These bytes were read of the named content, each once, where the folder was as the first state says and is as the
-- second.
pub record IsRead (folder now : FolderState) (name bytes : List ℕ) : Type 0 where
  pub prefix : (content : List ℕ) → folder.content name ≡ Some content → IsPrefixOf bytes content
  pub given : RoseBy (length bytes) folder.given now.given
  pub later : folder.faults ≤ now.faults
  pub same : SameContents folder now

pub none_read : (folder : FolderState) (name : List ℕ) → IsRead folder folder name []
none_read folder name = record {
  prefix = λ content _. (content, refl);
  given = inl (omega arith);
  later = omega arith;
  same = λ n. refl;
}

-- What is served over two steps.
pub served_on : (old now next : List ℕ → Type 0) → SameServed old now → SameServed now next → SameServed old next
served_on old now next a b = λ name. (λ h. (b name).0 ((a name).0 h), λ h. (a name).1 ((b name).1 h))

prefix_more : (bytes content buffer : List ℕ) (n room : ℕ) → IsPrefixOf bytes content
    → ReadsInto buffer content (length bytes) n room → IsPrefixOf (bytes ++ take n buffer) content
prefix_more bytes content buffer n room (rest, is) reads =
    let left : drop (length bytes) content ≡ rest = ap (λ (z : List ℕ). drop (length bytes) z) is ∙ drop-append_seam bytes rest in
    let piece : take n buffer ≡ take n rest = reads.same ∙ ap (λ (z : List ℕ). take n z) left in (
      drop n rest,
      is ∙ ap (λ (z : List ℕ). bytes ++ z) (sym (take-append-drop n rest)) ∙ sym (append_assoc bytes (take n rest) (drop n rest))
          ∙ ap (λ (z : List ℕ). (bytes ++ z) ++ drop n rest) (sym piece),
    )

rose_more : (m n before now next : ℕ) → RoseBy m before now → RoseBy n now next → RoseBy (m + n) before next
rose_more m n before now next (inl e) (inl f) = inl (omega arith)
rose_more m n before now next (inr h) (inl f) = inr (omega arith)
rose_more m n before now next e (inr h) = inr h

given_more : (n before now next : ℕ) (bytes piece : List ℕ) → length piece ≡ n → RoseBy (length bytes) before now → RoseBy n now next
    → RoseBy (length (bytes ++ piece)) before next
given_more n before now next bytes piece is e f =
    subst (λ (k : ℕ). RoseBy k before next) (ap (λ (k : ℕ). length bytes + k) (sym is) ∙ sym (length-append bytes piece)) (rose_more (length bytes) n before now next e f)

-- A piece more is read.
pub more_read : (folder now next : FolderState) (name bytes buffer : List ℕ) (n room : ℕ) → IsRead folder now name bytes
    → ((content : List ℕ) → now.content name ≡ Some content → ReadsInto buffer content (length bytes) n room)
    → n ≤ length buffer → RoseBy n now.given next.given → now.faults ≤ next.faults → SameContents now next
    → IsRead folder next name (bytes ++ take n buffer)
more_read folder now next name bytes buffer n room r reads fits rose later same = record {
  prefix = λ content h. prefix_more bytes content buffer n room (r.prefix content h) (reads content (r.same name ∙ h));
  given = given_more n folder.given now.given next.given bytes (take n buffer) (length-take-le n buffer fits) r.given rose;
  later = let h = r.later in omega arith;
  same = λ m. same m ∙ r.same m;
}

-- Where a read gives nothing, the content has ended.
pub ends_read : (folder now : FolderState) (name bytes buffer : List ℕ) (n room : ℕ) → IsRead folder now name bytes
    → ((content : List ℕ) → now.content name ≡ Some content → ReadsInto buffer content (length bytes) n room)
    → n ≡ 0 → 0 < room → (content : List ℕ) → folder.content name ≡ Some content → bytes ≡ content
ends_read folder now name bytes buffer n room r reads none some content h =
    let prefix = r.prefix content h in
    let over = (reads content (r.same name ∙ h)).some none some in
    let sizes = ap (λ (z : List ℕ). length z) prefix.1 ∙ length-append bytes prefix.0 in
    let nil : length prefix.0 ≡ 0 = omega arith in
    sym (prefix.1 ∙ ap (λ (z : List ℕ). bytes ++ z) (nil_from_length prefix.0 nil) ∙ append-nil bytes)

-- A read that gives nothing leaves what was given.
pub given_none : (n k before now next : ℕ) → n ≡ 0 → RoseBy k before now → RoseBy n now next → RoseBy k before next
given_none n k before now next none (inl e) (inl f) = inl (omega arith)
given_none n k before now next none (inr h) (inl f) = inr (omega arith)
given_none n k before now next none e (inr h) = inr h

-- More was read than the content may have.
pub long_given : (most n before now : ℕ) → RoseBy n before now → most < n → RoseAbove most before now
long_given most n before now (inl e) long = inl (omega arith)
long_given most n before now (inr h) long = inr h

pub long_content : (most : ℕ) (bytes content : List ℕ) → IsPrefixOf bytes content → most < length bytes → most < length content
long_content most bytes content (rest, is) long =
    let sizes = ap (λ (z : List ℕ). length z) is ∙ length-append bytes rest in omega arith
