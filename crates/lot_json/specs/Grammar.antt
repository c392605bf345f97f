-- JSON texts by RFC 8259: which tree a list of bytes has. Each relation is between bytes and what they are read into,
-- and n is the number of arrays and objects that may still be opened within. That limit is this project's own.
use Rattle.std.specs.Prelude.{◌≡◌, ℕ, ◌⊎◌, true, false, List, [], ◌∷◌, ◌++◌, suc, codes}
use Rattle.lot_json.specs.declared.tree.number.Number.{Number}
use Rattle.lot_json.specs.declared.tree.json.Json.{Json}
use Rattle.lot_json.specs.declared.tree.json.Json.TheVariants as tree
use Rattle.lot_json.specs.Bytes.{space, tab, line_feed, carriage_return, quote, left_bracket, right_bracket, left_brace, right_brace, comma, colon, mark_first, mark_second, mark_third}
use Rattle.lot_json.specs.NumberToken.{IsNumberToken}
use Rattle.lot_json.specs.Characters.{Characters}

-- The most arrays and objects that may be open at once.
abbrev pub max_open_containers : ℕ
max_open_containers = 128

-- Space, tab, line feed or carriage return.
abbrev pub IsWhiteSpace : ℕ → Type 0
IsWhiteSpace c = (c ≡ space) ⊎ ((c ≡ tab) ⊎ ((c ≡ line_feed) ⊎ (c ≡ carriage_return)))

abbrev pub AreWhiteSpace : List ℕ → Type 0
AreWhiteSpace [] = Unit {0}
AreWhiteSpace (c ∷ cs) = IsWhiteSpace c × AreWhiteSpace cs

mutual
  -- A value, with no white space round it.
  pub data Value : ℕ → List ℕ → Json → Type 0 where
    null_value : {n : ℕ} {b : List ℕ} {x : Json}
        → b ≡ codes "null"
        → x ≡ tree.Null
        → Value n b x
    true_value : {n : ℕ} {b : List ℕ} {x : Json}
        → b ≡ codes "true"
        → x ≡ tree.Bool true
        → Value n b x
    false_value : {n : ℕ} {b : List ℕ} {x : Json}
        → b ≡ codes "false"
        → x ≡ tree.Bool false
        → Value n b x
    number_value : {n : ℕ} {b : List ℕ} {x : Json} (m : Number)
        → IsNumberToken b m
        → x ≡ tree.Number m
        → Value n b x
    text_value : {n : ℕ} {b : List ℕ} {x : Json} (r s : List ℕ)
        → Characters r s
        → b ≡ quote ∷ r
        → x ≡ tree.Text s
        → Value n b x
    array_value : {n : ℕ} {b : List ℕ} {x : Json} (m : ℕ) (r : List ℕ) (xs : List Json)
        → Items m r xs
        → n ≡ suc m
        → b ≡ left_bracket ∷ r
        → x ≡ tree.Items xs
        → Value n b x
    object_value : {n : ℕ} {b : List ℕ} {x : Json} (m : ℕ) (r : List ℕ) (ps : List (List ℕ × Json))
        → Members m r ps
        → n ≡ suc m
        → b ≡ left_brace ∷ r
        → x ≡ tree.Members (record { pairs = ps })
        → Value n b x

  -- White space, and a value.
  pub data Element : ℕ → List ℕ → Json → Type 0 where
    element_space : {n : ℕ} {b : List ℕ} {x : Json} (c : ℕ) (r : List ℕ)
        → IsWhiteSpace c
        → Element n r x
        → b ≡ c ∷ r
        → Element n b x
    element_value : {n : ℕ} {b : List ℕ} {x : Json}
        → Value n b x
        → Element n b x

  -- What comes after the '[' of an array, up to its ']', and the items.
  pub data Items : ℕ → List ℕ → List Json → Type 0 where
    items_space : {n : ℕ} {b : List ℕ} {xs : List Json} (c : ℕ) (r : List ℕ)
        → IsWhiteSpace c
        → Items n r xs
        → b ≡ c ∷ r
        → Items n b xs
    items_close : {n : ℕ} {b : List ℕ} {xs : List Json}
        → b ≡ right_bracket ∷ []
        → xs ≡ []
        → Items n b xs
    items_first : {n : ℕ} {b : List ℕ} {xs : List Json} (f r : List ℕ) (y : Json) (ys : List Json)
        → Value n f y
        → MoreItems n r ys
        → b ≡ f ++ r
        → xs ≡ y ∷ ys
        → Items n b xs

  -- What comes after an item, up to the ']', and the items that follow.
  pub data MoreItems : ℕ → List ℕ → List Json → Type 0 where
    more_items_space : {n : ℕ} {b : List ℕ} {xs : List Json} (c : ℕ) (r : List ℕ)
        → IsWhiteSpace c
        → MoreItems n r xs
        → b ≡ c ∷ r
        → MoreItems n b xs
    more_items_close : {n : ℕ} {b : List ℕ} {xs : List Json}
        → b ≡ right_bracket ∷ []
        → xs ≡ []
        → MoreItems n b xs
    more_items_next : {n : ℕ} {b : List ℕ} {xs : List Json} (f r : List ℕ) (y : Json) (ys : List Json)
        → Element n f y
        → MoreItems n r ys
        → b ≡ comma ∷ (f ++ r)
        → xs ≡ y ∷ ys
        → MoreItems n b xs

  -- What comes after the '{' of an object, up to its '}', and the members.
  pub data Members : ℕ → List ℕ → List (List ℕ × Json) → Type 0 where
    members_space : {n : ℕ} {b : List ℕ} {ps : List (List ℕ × Json)} (c : ℕ) (r : List ℕ)
        → IsWhiteSpace c
        → Members n r ps
        → b ≡ c ∷ r
        → Members n b ps
    members_close : {n : ℕ} {b : List ℕ} {ps : List (List ℕ × Json)}
        → b ≡ right_brace ∷ []
        → ps ≡ []
        → Members n b ps
    members_first : {n : ℕ} {b : List ℕ} {ps : List (List ℕ × Json)} (name r : List ℕ)
        → AfterQuote n r name ps
        → b ≡ quote ∷ r
        → Members n b ps

  -- What comes after the quotation mark that opens a member's name, up to the object's '}': the name, and the members
  -- from this one on.
  pub data AfterQuote : ℕ → List ℕ → List ℕ → List (List ℕ × Json) → Type 0 where
    after_quote_named : {n : ℕ} {b name : List ℕ} {ps : List (List ℕ × Json)} (t r : List ℕ)
        → Characters t name
        → AfterName n r name ps
        → b ≡ t ++ r
        → AfterQuote n b name ps

  -- What comes after a member's name, up to the object's '}', and the members from this one on.
  pub data AfterName : ℕ → List ℕ → List ℕ → List (List ℕ × Json) → Type 0 where
    after_name_space : {n : ℕ} {b name : List ℕ} {ps : List (List ℕ × Json)} (c : ℕ) (r : List ℕ)
        → IsWhiteSpace c
        → AfterName n r name ps
        → b ≡ c ∷ r
        → AfterName n b name ps
    after_name_colon : {n : ℕ} {b name : List ℕ} {ps : List (List ℕ × Json)}
        (f r : List ℕ) (y : Json) (qs : List (List ℕ × Json))
        → Element n f y
        → MoreMembers n r qs
        → b ≡ colon ∷ (f ++ r)
        → ps ≡ (name, y) ∷ qs
        → AfterName n b name ps

  -- What comes after a member, up to the '}', and the members that follow.
  pub data MoreMembers : ℕ → List ℕ → List (List ℕ × Json) → Type 0 where
    more_members_space : {n : ℕ} {b : List ℕ} {ps : List (List ℕ × Json)} (c : ℕ) (r : List ℕ)
        → IsWhiteSpace c
        → MoreMembers n r ps
        → b ≡ c ∷ r
        → MoreMembers n b ps
    more_members_close : {n : ℕ} {b : List ℕ} {ps : List (List ℕ × Json)}
        → b ≡ right_brace ∷ []
        → ps ≡ []
        → MoreMembers n b ps
    more_members_next : {n : ℕ} {b : List ℕ} {ps : List (List ℕ × Json)} (r : List ℕ)
        → NextMember n r ps
        → b ≡ comma ∷ r
        → MoreMembers n b ps

  -- What comes after the ',' of an object, up to the '}', and the members that follow.
  pub data NextMember : ℕ → List ℕ → List (List ℕ × Json) → Type 0 where
    next_member_space : {n : ℕ} {b : List ℕ} {ps : List (List ℕ × Json)} (c : ℕ) (r : List ℕ)
        → IsWhiteSpace c
        → NextMember n r ps
        → b ≡ c ∷ r
        → NextMember n b ps
    next_member_quote : {n : ℕ} {b : List ℕ} {ps : List (List ℕ × Json)} (name r : List ℕ)
        → AfterQuote n r name ps
        → b ≡ quote ∷ r
        → NextMember n b ps

-- White space, a value and white space, with at most 128 arrays and objects open at once.
pub record Body (b : List ℕ) (x : Json) : Type 0 where
  pub element : List ℕ
  pub spaces : List ℕ
  pub is_element : Element max_open_containers element x
  pub are_spaces : AreWhiteSpace spaces
  pub spelled : b ≡ element ++ spaces

-- A JSON text of the profile, and its tree. One byte order mark may come before it.
abbrev pub JsonText : List ℕ → Json → Type 0
JsonText b x = Body b x ⊎ ((r : List ℕ) × (b ≡ mark_first ∷ mark_second ∷ mark_third ∷ r) × Body r x)
