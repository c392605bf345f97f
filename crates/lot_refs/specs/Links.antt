-- Chains of links: each place of a list leads to another place, or nowhere. A link may lead out of the list; the chain
-- then ends.
use Rattle.std.specs.Prelude.{◌≡◌, ℕ, zero, suc, Bool, false, List, [], ◌∷◌, length, ◌<◌, slice_index_or, Option, Some, None, eqb}
use Rattle.std.specs.List.{list_any}

-- Where each place leads.
abbrev pub Links : Type 0
Links = List (Option ℕ)

-- Where one step leads. A chain that has ended stays so.
abbrev pub next : Links → Option ℕ → Option ℕ
next links None = None
next links (Some l) = slice_index_or links l None

-- Where n steps lead.
abbrev pub after : Links → ℕ → Option ℕ → Option ℕ
after links zero at = at
after links (suc n) at = after links n (next links at)

-- The first n places of the chain that begins at a place.
abbrev pub trail : Links → ℕ → Option ℕ → List ℕ
trail links zero at = []
trail links (suc n) None = []
trail links (suc n) (Some l) = l ∷ trail links n (next links (Some l))

-- The places that the steps from l lead to, of at most as many steps as there are places.
abbrev pub ancestors : Links → ℕ → List ℕ
ancestors links l = trail links (length links) (next links (Some l))

-- A place comes back where it is among its own ancestors.
abbrev pub comes_back : Links → ℕ → Bool
comes_back links l = list_any (eqb l) (ancestors links l)

-- The same in other words: some number of steps, one or more, leads from l to l.
abbrev pub ComesBack : Links → ℕ → Type 0
ComesBack links l = (n : ℕ) × (after links (suc n) (Some l) ≡ Some l)

-- Whether a link leads to l.
abbrev pub leads_to : ℕ → Option ℕ → Bool
leads_to l None = false
leads_to l (Some k) = eqb l k

-- Each link of `far` leads where n steps lead.
abbrev pub IsJump : Links → ℕ → Links → Type 0
IsJump links n far = (at : Option ℕ) → next far at ≡ after links n at

-- There is a mark for each of n places, and it says whether the place comes back.
pub record CirclesAre (marks : List Bool) (links : Links) (n : ℕ) : Type 0 where
  pub count : length marks ≡ n
  pub same : (l : ℕ) → l < n → slice_index_or marks l false ≡ comes_back links l
