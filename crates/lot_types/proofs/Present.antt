-- Values that may be missing, and are there.
use Rattle.std.proofs.Common.{◌≡◌, List, [], ◌∷◌, map, ap, sym, ◌∙◌, refl}
use Rattle.std.specs.Prelude.{Option, Some, None, IsSome, option_map, option_and_then}
use Rattle.std.specs.List.{All}
use Rattle.std.proofs.lemmas.List.Elements.{All-head, All-tail}
use Rattle.lot_types.specs.Options.{put_before, all_present}

-- What is made of a value that is there.
pub map_present : {A B : Type 0} (f : A → B) (x : Option A) → IsSome x → IsSome (option_map f x)
map_present f (Some x) h = refl
map_present f None h = absurd (cc)

pub then_present : {A B : Type 0} (f : A → Option B) (x : Option A) → IsSome x → ((y : A) → IsSome (f y)) → IsSome (option_and_then f x)
then_present f (Some x) h k = k x
then_present f None h k = absurd (cc)

-- Lists in which no value is missing.
pub all_are_present : {A : Type 0} (xs : List A) → all_present (map Some xs) ≡ Some xs
all_are_present [] = refl
all_are_present (x ∷ xs) = ap (put_before (Some x)) (all_are_present xs)

-- So it is of any list that is the same.
pub present : {A : Type 0} (xs : List A) (ys : List (Option A)) → map Some xs ≡ ys → all_present ys ≡ Some xs
present xs ys e = ap all_present (sym e) ∙ all_are_present xs

pub put_present : {A : Type 0} (x : Option A) (xs : Option (List A)) → IsSome x → IsSome xs → IsSome (put_before x xs)
put_present (Some x) (Some xs) h k = refl
put_present (Some x) None h k = absurd (cc)
put_present None xs h k = absurd (cc)

-- What a function gives of the items of a list, where it gives something of each.
pub each_present : {A B : Type 0} (f : A → Option B) (xs : List A) → All (λ x. IsSome (f x)) xs → IsSome (all_present (map f xs))
each_present f [] h = refl
each_present f (x ∷ xs) h =
    put_present (f x) (all_present (map f xs)) (All-head (λ x. IsSome (f x)) x xs h)
    (each_present f xs (All-tail (λ x. IsSome (f x)) x xs h))

-- The values of a list in which none is missing are all that it has.
none_missing_after : {A : Type 0} (y : A) (ys : List (Option A)) (others : Option (List A)) (xs : List A) → put_before (Some y) others ≡ Some xs
    → ((zs : List A) → others ≡ Some zs → map Some zs ≡ ys) → map Some xs ≡ Some y ∷ ys
none_missing_after y ys None xs e h = absurd (cc)
none_missing_after y ys (Some zs) xs e h =
    let same : y ∷ zs ≡ xs = cc in ap (map Some) (sym same) ∙ ap (λ (z : List (Option _)). Some y ∷ z) (h zs refl)

pub none_missing : {A : Type 0} (ys : List (Option A)) (xs : List A) → all_present ys ≡ Some xs → map Some xs ≡ ys
none_missing [] xs e = let none : [] ≡ xs = cc in ap (map Some) (sym none)
none_missing (None ∷ ys) xs e = absurd (cc)
none_missing (Some y ∷ ys) xs e = none_missing_after y ys (all_present ys) xs e (none_missing ys)
