-- A JSON text is of one tree. A value and each part of an array or an object ends at one place, where no more of a
-- number may follow.
use Rattle.std.proofs.Common.{◌≡◌, ℕ, inl, inr, List, [], ◌∷◌, ◌++◌, ap, sym, ◌∙◌, refl, arith, codes}
use Rattle.lot_json.specs.declared.tree.number.Number.{Number}
use Rattle.lot_json.specs.declared.tree.json.Json.{Json}
use Rattle.lot_json.specs.declared.tree.json.Json.TheVariants as tree
use Rattle.lot_json.specs.Grammar.{Value, null_value, true_value, false_value, number_value, text_value, array_value, object_value, Element, element_space, element_value, Items, items_space, items_close, items_first, MoreItems, more_items_space, more_items_close, more_items_next}
use Rattle.lot_json.specs.Grammar.{Members, members_space, members_close, members_first, AfterQuote, after_quote_named, AfterName, after_name_space, after_name_colon, MoreMembers, more_members_space, more_members_close, more_members_next, NextMember, next_member_space, next_member_quote, Body, JsonText}
use Rattle.lot_json.proofs.Utf8.{heads}
use Rattle.lot_json.proofs.Prefixes.{along, regroup, same_rest, Stops}
use Rattle.lot_json.proofs.SameNumber.{same_number}
use Rattle.lot_json.proofs.SameCharacters.{same_characters}
use Rattle.lot_json.proofs.ValuePrefixes.{meets, small, not_space, not_close, not_mark, items_stop, members_stop, spaces_stop}

abbrev with_member : List ℕ → Json → List (List ℕ × Json) → List (List ℕ × Json)
with_member name y ps = (name, y) ∷ ps

same_member : {u v : List ℕ} {x y : Json} {ps qs : List (List ℕ × Json)} → u ≡ v → x ≡ y → ps ≡ qs → with_member u x ps ≡ with_member v y qs
same_member {u} {v} {x} {y} {ps} {qs} e h k = ap (λ (z : List ℕ). with_member z x ps) e ∙ ap (λ (z : Json). with_member v z ps) h ∙ ap (λ (z : List (List ℕ × Json)). with_member v y z) k

same_item : {x y : Json} {xs ys : List Json} → x ≡ y → xs ≡ ys → x ∷ xs ≡ y ∷ ys
same_item {x} {y} {xs} {ys} e h = ap (λ (z : Json). z ∷ xs) e ∙ ap (λ (z : List Json). y ∷ z) h

mutual
  same_value : {n m : ℕ} {f g : List ℕ} {x y : Json} (r q : List ℕ) → Value n f x → Value m g y → f ++ r ≡ g ++ q → Stops r → Stops q → (x ≡ y) × (r ≡ q)
  same_value r q (null_value e h) (null_value d k) s a b = (h ∙ sym k, same_rest (codes "null") r q (along r q e d s))
  same_value r q (true_value e h) (true_value d k) s a b = (h ∙ sym k, same_rest (codes "true") r q (along r q e d s))
  same_value r q (false_value e h) (false_value d k) s a b = (h ∙ sym k, same_rest (codes "false") r q (along r q e d s))
  same_value r q (number_value m t h) (number_value n u k) s a b =
      let i = same_number r q t u a b s in
      (h ∙ ap (λ (z : Number). tree.Number z) i.0 ∙ sym k, i.1)
  same_value r q (text_value f t c e h) (text_value g u i d k) s a b =
      let j = same_characters r q c i (heads (along r q e d s)).1 in
      (h ∙ ap (λ (z : List ℕ). tree.Text z) j.0 ∙ sym k, j.1)
  same_value r q (array_value m f xs i l e h) (array_value n g ys j o d k) s a b =
      let p = same_items r q i j (heads (along r q e d s)).1 in
      (h ∙ ap (λ (z : List Json). tree.Items z) p.0 ∙ sym k, p.1)
  same_value r q (object_value m f xs i l e h) (object_value n g ys j o d k) s a b =
      let p = same_members r q i j (heads (along r q e d s)).1 in
      (h ∙ ap (λ (z : List (List ℕ × Json)). tree.Members (record { pairs = z })) p.0 ∙ sym k, p.1)
  same_value r q v w s a b = absurd (omega (arith, (meets r q v w s).0, (meets r q v w s).1))

  same_element : {n m : ℕ} {f g : List ℕ} {x y : Json} (r q : List ℕ) → Element n f x → Element m g y → f ++ r ≡ g ++ q → Stops r → Stops q → (x ≡ y) × (r ≡ q)
  same_element r q (element_space c f t i e) (element_space d g u j h) s a b = same_element r q i j (heads (along r q e h s)).1 a b
  same_element r q (element_space c f t i e) (element_value w) s a b = absurd (not_space c q (f ++ r) t w (sym s ∙ ap (λ (z : List ℕ). z ++ r) e))
  same_element r q (element_value v) (element_space d g u j h) s a b = absurd (not_space d r (g ++ q) u v (s ∙ ap (λ (z : List ℕ). z ++ q) h))
  same_element r q (element_value v) (element_value w) s a b = same_value r q v w s a b

  same_items : {n m : ℕ} {f g : List ℕ} {xs ys : List Json} (r q : List ℕ) → Items n f xs → Items m g ys → f ++ r ≡ g ++ q → (xs ≡ ys) × (r ≡ q)
  same_items r q (items_space c f t i e) (items_space d g u j h) s = same_items r q i j (heads (along r q e h s)).1
  same_items r q (items_space c f t i e) (items_close h k) s = absurd (omega (arith, small t, (heads (along r q e h s)).0))
  same_items r q (items_space c f t i e) (items_first g l y ys w j h k) s =
      absurd (not_space c (l ++ q) (f ++ r) t w (regroup g [] l [] q (c ∷ (f ++ r)) (sym (along r q e h s))))
  same_items r q (items_close e l) (items_space d g u j h) s = absurd (omega (arith, small u, (heads (along r q e h s)).0))
  same_items r q (items_close e l) (items_close h k) s = (l ∙ sym k, (heads (along r q e h s)).1)
  same_items r q (items_close e o) (items_first g l y ys w j h k) s = absurd (not_close (l ++ q) r w (regroup g [] l [] q (93 ∷ r) (sym (along r q e h s))))
  same_items r q (items_first f p x xs v i e o) (items_space d g u j h) s =
      absurd (not_space d (p ++ r) (g ++ q) u v (regroup f [] p [] r (d ∷ (g ++ q)) (along r q e h s)))
  same_items r q (items_first f p x xs v i e o) (items_close h k) s = absurd (not_close (p ++ r) q v (regroup f [] p [] r (93 ∷ q) (along r q e h s)))
  same_items r q (items_first f p x xs v i e o) (items_first g l y ys w j h k) s =
      let a = same_value (p ++ r) (l ++ q) v w (regroup f g p l r q (along r q e h s)) (items_stop r i) (items_stop q j) in
      let b = same_more_items r q i j a.1 in
      (o ∙ same_item a.0 b.0 ∙ sym k, b.1)

  same_more_items : {n m : ℕ} {f g : List ℕ} {xs ys : List Json} (r q : List ℕ) → MoreItems n f xs → MoreItems m g ys → f ++ r ≡ g ++ q → (xs ≡ ys) × (r ≡ q)
  same_more_items r q (more_items_space c f t i e) (more_items_space d g u j h) s = same_more_items r q i j (heads (along r q e h s)).1
  same_more_items r q (more_items_space c f t i e) (more_items_close h k) s = absurd (omega (arith, small t, (heads (along r q e h s)).0))
  same_more_items r q (more_items_space c f t i e) (more_items_next g l y ys w j h k) s = absurd (omega (arith, small t, (heads (along r q e h s)).0))
  same_more_items r q (more_items_close e l) (more_items_space d g u j h) s = absurd (omega (arith, small u, (heads (along r q e h s)).0))
  same_more_items r q (more_items_close e l) (more_items_close h k) s = (l ∙ sym k, (heads (along r q e h s)).1)
  same_more_items r q (more_items_close e o) (more_items_next g l y ys w j h k) s = absurd (omega (arith, (heads (along r q e h s)).0))
  same_more_items r q (more_items_next f p x xs v i e o) (more_items_space d g u j h) s = absurd (omega (arith, small u, (heads (along r q e h s)).0))
  same_more_items r q (more_items_next f p x xs v i e o) (more_items_close h k) s = absurd (omega (arith, (heads (along r q e h s)).0))
  same_more_items r q (more_items_next f p x xs v i e o) (more_items_next g l y ys w j h k) s =
      let a = same_element (p ++ r) (l ++ q) v w (regroup f g p l r q (heads (along r q e h s)).1) (items_stop r i) (items_stop q j) in
      let b = same_more_items r q i j a.1 in
      (o ∙ same_item a.0 b.0 ∙ sym k, b.1)

  same_members : {n m : ℕ} {f g : List ℕ} {ps qs : List (List ℕ × Json)} (r q : List ℕ) → Members n f ps → Members m g qs → f ++ r ≡ g ++ q → (ps ≡ qs) × (r ≡ q)
  same_members r q (members_space c f t i e) (members_space d g u j h) s = same_members r q i j (heads (along r q e h s)).1
  same_members r q (members_space c f t i e) (members_close h k) s = absurd (omega (arith, small t, (heads (along r q e h s)).0))
  same_members r q (members_space c f t i e) (members_first name g j h) s = absurd (omega (arith, small t, (heads (along r q e h s)).0))
  same_members r q (members_close e l) (members_space d g u j h) s = absurd (omega (arith, small u, (heads (along r q e h s)).0))
  same_members r q (members_close e l) (members_close h k) s = (l ∙ sym k, (heads (along r q e h s)).1)
  same_members r q (members_close e l) (members_first name g j h) s = absurd (omega (arith, (heads (along r q e h s)).0))
  same_members r q (members_first name f i e) (members_space d g u j h) s = absurd (omega (arith, small u, (heads (along r q e h s)).0))
  same_members r q (members_first name f i e) (members_close h k) s = absurd (omega (arith, (heads (along r q e h s)).0))
  same_members r q (members_first name f i e) (members_first other g j h) s = same_after_quote r q i j (heads (along r q e h s)).1

  same_after_quote : {n m : ℕ} {f g u v : List ℕ} {ps qs : List (List ℕ × Json)} (r q : List ℕ) → AfterQuote n f u ps → AfterQuote m g v qs → f ++ r ≡ g ++ q → (ps ≡ qs) × (r ≡ q)
  same_after_quote r q (after_quote_named f p c i e) (after_quote_named g l d j h) s =
      let a = same_characters (p ++ r) (l ++ q) c d (regroup f g p l r q (along r q e h s)) in
      same_after_name r q i j a.0 a.1

  same_after_name : {n m : ℕ} {f g u v : List ℕ} {ps qs : List (List ℕ × Json)} (r q : List ℕ) → AfterName n f u ps → AfterName m g v qs → u ≡ v → f ++ r ≡ g ++ q → (ps ≡ qs) × (r ≡ q)
  same_after_name r q (after_name_space c f t i e) (after_name_space d g u j h) same s = same_after_name r q i j same (heads (along r q e h s)).1
  same_after_name r q (after_name_space c f t i e) (after_name_colon g l y ys w j h k) same s = absurd (omega (arith, small t, (heads (along r q e h s)).0))
  same_after_name r q (after_name_colon f p x xs v i e o) (after_name_space d g u j h) same s = absurd (omega (arith, small u, (heads (along r q e h s)).0))
  same_after_name r q (after_name_colon f p x xs v i e o) (after_name_colon g l y ys w j h k) same s =
      let a = same_element (p ++ r) (l ++ q) v w (regroup f g p l r q (heads (along r q e h s)).1) (members_stop r i) (members_stop q j) in
      let b = same_more_members r q i j a.1 in
      (o ∙ same_member same a.0 b.0 ∙ sym k, b.1)

  same_more_members : {n m : ℕ} {f g : List ℕ} {ps qs : List (List ℕ × Json)} (r q : List ℕ) → MoreMembers n f ps → MoreMembers m g qs → f ++ r ≡ g ++ q → (ps ≡ qs) × (r ≡ q)
  same_more_members r q (more_members_space c f t i e) (more_members_space d g u j h) s = same_more_members r q i j (heads (along r q e h s)).1
  same_more_members r q (more_members_space c f t i e) (more_members_close h k) s = absurd (omega (arith, small t, (heads (along r q e h s)).0))
  same_more_members r q (more_members_space c f t i e) (more_members_next g j h) s = absurd (omega (arith, small t, (heads (along r q e h s)).0))
  same_more_members r q (more_members_close e l) (more_members_space d g u j h) s = absurd (omega (arith, small u, (heads (along r q e h s)).0))
  same_more_members r q (more_members_close e l) (more_members_close h k) s = (l ∙ sym k, (heads (along r q e h s)).1)
  same_more_members r q (more_members_close e l) (more_members_next g j h) s = absurd (omega (arith, (heads (along r q e h s)).0))
  same_more_members r q (more_members_next f i e) (more_members_space d g u j h) s = absurd (omega (arith, small u, (heads (along r q e h s)).0))
  same_more_members r q (more_members_next f i e) (more_members_close h k) s = absurd (omega (arith, (heads (along r q e h s)).0))
  same_more_members r q (more_members_next f i e) (more_members_next g j h) s = same_next_member r q i j (heads (along r q e h s)).1

  same_next_member : {n m : ℕ} {f g : List ℕ} {ps qs : List (List ℕ × Json)} (r q : List ℕ) → NextMember n f ps → NextMember m g qs → f ++ r ≡ g ++ q → (ps ≡ qs) × (r ≡ q)
  same_next_member r q (next_member_space c f t i e) (next_member_space d g u j h) s = same_next_member r q i j (heads (along r q e h s)).1
  same_next_member r q (next_member_space c f t i e) (next_member_quote name g j h) s = absurd (omega (arith, small t, (heads (along r q e h s)).0))
  same_next_member r q (next_member_quote name f i e) (next_member_space d g u j h) s = absurd (omega (arith, small u, (heads (along r q e h s)).0))
  same_next_member r q (next_member_quote name f i e) (next_member_quote other g j h) s = same_after_quote r q i j (heads (along r q e h s)).1

-- ---- whole texts

same_body : (b d : List ℕ) (x y : Json) → Body b x → Body d y → b ≡ d → x ≡ y
same_body b d x y h k e =
    (same_element h.spaces k.spaces h.is_element k.is_element (sym h.spelled ∙ e ∙ k.spelled) (spaces_stop h.spaces h.are_spaces) (spaces_stop k.spaces k.are_spaces)).0

no_mark : (b r : List ℕ) (x : Json) → Body b x → b ≡ 239 ∷ r → ⊥
no_mark b r x h e = not_mark h.spaces r h.is_element (sym h.spelled ∙ e)

pub one_tree : (b : List ℕ) (x y : Json) → JsonText b x → JsonText b y → x ≡ y
one_tree b x y (inl h) (inl k) = same_body b b x y h k refl
one_tree b x y (inl h) (inr (r, e, k)) = absurd (no_mark b (187 ∷ 191 ∷ r) x h e)
one_tree b x y (inr (r, e, h)) (inl k) = absurd (no_mark b (187 ∷ 191 ∷ r) y k e)
one_tree b x y (inr (r, e, h)) (inr (q, d, k)) = same_body r q x y h k (heads (heads (heads (sym e ∙ d)).1).1).1
