-- The steps of the pass, over plain values.
use Rattle.std.proofs.Common.{◌≡◌, ℕ, ℤ, ◌+◌, ◌<◌, ◌≤◌, List, [], ◌∷◌, ◌++◌, map, length, take, drop, get_or, set, reverse, Option, Some, refl, ap, sym, ◌∙◌, subst, false, arith, append_assoc}
use Rattle.std.proofs.lemmas.List.{append-nil, map-append, map_push, length-map, length-append, take_at, drop_at, take-map, drop-map, take_more, drop_more, get_or_at, set_at, map_more, length-take-le, reverse-append}
use Rattle.lot_geom.specs.Matrix.{identity, matrix_product}
use Rattle.lot_outline.specs.Leaf.{leaf_contours}
use Rattle.lot_prop.specs.Slots.{evaluated}
use Rattle.std.specs.Prelude.{option_map}
use Rattle.lot_types.specs.declared.doc.Doc.{Doc}
use Rattle.lot_types.specs.declared.item.Item.{Item}
use Rattle.lot_types.specs.declared.matrix.Matrix.{Matrix}
use Rattle.lot_types.specs.declared.outline.Outline.{Outline}
use Rattle.lot_types.specs.declared.painted.Painted.{Painted}
use Rattle.lot_types.specs.Items.{group, leaf, style, trim, kind_of, is_hidden}
use Rattle.lot_group.specs.Group.{first_transform, matrix_of_found, opacity_of_found, group_matrix, group_opacity}
use Rattle.lot_group.specs.Live.{live}
use Rattle.lot_group.specs.Outlines.{outline_of, own_outline, trimmed, outlines_of}
use Rattle.lot_group.specs.Trim.{trim_value}
use Rattle.lot_group.specs.Painting.{Painting, paintings_of}
use Rattle.lot_group.specs.Pass.{OpenGroups, present_painting, maps_of, placed}
use Rattle.lot_group.specs.Place.{items_of}
use Rattle.lot_group.specs.Product.{then_both, map_product, map_product_from}
use Rattle.lot_group.proofs.Filters.{map_same, map-map, Each-from}
use Rattle.lot_group.proofs.Paints.{lifted}
use Rattle.lot_group.proofs.Adds.{Adds, adds-leaf, adds-trim, adds-group, adds-style, style_of}
use Rattle.lot_group.proofs.Trimmed.{trimmed-present}

-- One more of a list is mapped in place.
pub mapped_more : {V : Type 0} (f : V → V) (xs ys : List V) (i : ℕ) (e v : V) → i < length xs →
    ys ≡ map f (take i xs) ++ drop i xs → v ≡ f (get_or ys i e) →
    set ys i v ≡ map f (take (i + 1) xs) ++ drop (i + 1) xs
mapped_more f xs ys i e v h w q =
    let before = map f (take i xs) in
    let n : length before ≡ i = length-map (take i xs) f ∙ length-take-le i xs (omega arith) in
    let l : ys ≡ before ++ get_or xs i e ∷ drop (i + 1) xs =
    w ∙ ap (λ (z : List _). before ++ z) (drop_more xs i e h) in
    let g : get_or ys i e ≡ get_or xs i e =
    ap (λ (z : List _). get_or z i e) l ∙ get_or_at before (get_or xs i e) (drop (i + 1) xs) e i n in
    ap (λ (z : List _). set z i v) l ∙
    (set_at before (get_or xs i e) (drop (i + 1) xs) v i n ∙
    (ap (λ (z : _). before ++ z ∷ drop (i + 1) xs) (q ∙ ap f g) ∙
    (sym (append_assoc before (f (get_or xs i e) ∷ []) (drop (i + 1) xs)) ∙
    ap (λ (z : List _). z ++ drop (i + 1) xs) (sym (map_more f xs i e h)))))

-- One more factor, from the last on.
pub product_more : (p n e : Matrix) (xs : List Matrix) (i : ℕ) → i < length xs → n ≡ matrix_product p (get_or xs i e) →
    map_product_from (Some n) (map Some (reverse (take i xs))) ≡
    map_product_from (Some p) (map Some (reverse (take (i + 1) xs)))
unfolding then_both
product_more p n e xs i l q =
    let r : reverse (take (i + 1) xs) ≡ get_or xs i e ∷ reverse (take i xs) =
    ap reverse (take_more xs i e l) ∙ reverse-append (take i xs) (get_or xs i e ∷ []) in
    ap (λ (z : Matrix). map_product_from (Some z) (map Some (reverse (take i xs)))) q ∙
    sym (ap (λ (z : List Matrix). map_product_from (Some p) (map Some z)) r)

pub longer : {V : Type 0} (xs ys : List V) (zs : List (Option V)) → map Some xs ≡ map Some ys ++ zs →
    length ys ≤ length xs
longer xs ys zs e =
    omega (arith, ap length e, length-map xs Some, length-map ys Some, length-append (map Some ys) zs)

then_each : (m : Matrix) (xs : List Matrix) →
    map Some (map (λ a. matrix_product a m) xs) ≡ map (λ a. then_both a (Some m)) (map Some xs)
unfolding then_both
then_each m [] = refl
then_each m (x ∷ xs) = ap (λ (z : List (Option Matrix)). Some (matrix_product x m) ∷ z) (then_each m xs)

-- The open groups with one more.
abbrev pub opened : OpenGroups → ℕ → Matrix → ℤ → OpenGroups
opened around k m o = record {
  place = around.place ++ k ∷ [];
  matrices = around.matrices ++ m ∷ [];
  opacities = around.opacities ++ o ∷ [];
}

placed-lifted : (around : OpenGroups) (b n k : ℕ) (m : Matrix) (o : ℤ) (p : Painting) →
    placed (opened around k m o) (b + n) p ≡ placed around b (lifted k (Some m) (Some o) n p)
placed-lifted around b n k m o p =
    let pl = append_assoc around.place (k ∷ []) p.place in
    let f : b + n + p.from ≡ b + (n + p.from) = omega arith in
    let t : b + n + p.to ≡ b + (n + p.to) = omega arith in
    let ms : reverse (around.matrices ++ m ∷ []) ≡ m ∷ reverse around.matrices =
    reverse-append around.matrices (m ∷ []) in
    let os : reverse (around.opacities ++ o ∷ []) ≡ o ∷ reverse around.opacities =
    reverse-append around.opacities (o ∷ []) in
    let gs : p.groups ++ map Some (reverse (around.opacities ++ o ∷ [])) ≡
    (p.groups ++ Some o ∷ []) ++ map Some (reverse around.opacities) =
    ap (λ (z : List ℤ). p.groups ++ map Some z) os ∙
    sym (append_assoc p.groups (Some o ∷ []) (map Some (reverse around.opacities))) in
    λ i. record {
      place = pl i;
      from = f i;
      to = t i;
      matrix = map_product_from p.matrix (map Some (ms i));
      groups = gs i;
      maps = p.maps;
    }

-- The values of an item, by its list and by its contours.
pub group_matrix-is : (d : Doc) (u : ℤ) (x : Item) (it : List Item) (m : Matrix) → items_of x ≡ it →
    matrix_of_found d u (first_transform it) ≡ Some m → group_matrix d u x ≡ Some m
unfolding group_matrix
group_matrix-is d u x it m e f = ap (λ (z : List Item). matrix_of_found d u (first_transform z)) e ∙ f

pub group_opacity-is : (d : Doc) (u : ℤ) (x : Item) (it : List Item) (o : ℤ) → items_of x ≡ it →
    opacity_of_found d u (first_transform it) ≡ Some o → group_opacity d u x ≡ Some o
unfolding group_opacity
group_opacity-is d u x it o e f = ap (λ (z : List Item). opacity_of_found d u (first_transform z)) e ∙ f

pub own_outline-is : (d : Doc) (u : ℤ) (x : Item) (o : Outline) → leaf_contours evaluated d x u ≡ Some o.contours →
    own_outline d u x ≡ Some o
unfolding own_outline
own_outline-is d u x o e = ap (option_map outline_of) e

-- Where a visit began: the open groups, and what was collected before.
pub record Start : Type 0 where
  pub around : OpenGroups
  pub outlines : List Outline
  pub maps : List Matrix
  pub styles : List Painted

-- What the items give that are done is collected.
pub record Gathered (d : Doc) (u : ℤ) (s : Start) (done : List Item) (os : List Outline) (ms : List Matrix)
    (ps : List Painted) : Type 0 where
  pub outlines : map Some os ≡ map Some s.outlines ++ outlines_of d u done
  pub maps : map Some ms ≡ map Some s.maps ++ maps_of d u done
  pub styles : map present_painting ps ≡
      map present_painting s.styles ++ map (placed s.around (length s.outlines)) (paintings_of d u done)

outlines_of-nil : (d : Doc) (u : ℤ) → outlines_of d u [] ≡ []
unfolding outlines_of live
outlines_of-nil d u = refl

maps_of-nil : (d : Doc) (u : ℤ) → maps_of d u [] ≡ []
unfolding maps_of live
maps_of-nil d u = refl

paintings_of-nil : (d : Doc) (u : ℤ) → paintings_of d u [] ≡ []
unfolding paintings_of live
paintings_of-nil d u = refl

pub starts : (d : Doc) (u : ℤ) (s : Start) → Gathered d u s [] s.outlines s.maps s.styles
starts d u s = record {
  outlines =
      sym (ap (λ (z : List (Option Outline)). map Some s.outlines ++ z) (outlines_of-nil d u) ∙
      append-nil (map Some s.outlines));
  maps =
      sym (ap (λ (z : List (Option Matrix)). map Some s.maps ++ z) (maps_of-nil d u) ∙ append-nil (map Some s.maps));
  styles =
      let f = placed s.around (length s.outlines) in
      sym (ap (λ (z : List Painting). map present_painting s.styles ++ map f z) (paintings_of-nil d u) ∙
      append-nil (map present_painting s.styles));
}

-- A list with the item at k as its last.
pub Gathered-at : (d : Doc) (u : ℤ) (s : Start) (xs : List Item) (k : ℕ) (x : Item) (os : List Outline)
    (ms : List Matrix) (ps : List Painted) → k < length xs → x ≡ get_or xs k x →
    Gathered d u s (take k xs ++ x ∷ []) os ms ps → Gathered d u s (take (k + 1) xs) os ms ps
Gathered-at d u s xs k x os ms ps l e g =
    subst (λ (z : List Item). Gathered d u s z os ms ps)
    (ap (λ (z : Item). take k xs ++ z ∷ []) e ∙ sym (take_more xs k x l)) g

-- One more item is done.
module _ (d : Doc) (u : ℤ) (s : Start) (done : List Item) (x : Item) (os os' : List Outline)
    (ms ms' : List Matrix) (ps ps' : List Painted) (g : Gathered d u s done os ms ps) where
  more : (os+ : List (Option Outline)) (ms+ : List (Option Matrix)) (ps+ : List Painting) →
      Adds d u done x os+ ms+ ps+ → map Some os' ≡ map Some s.outlines ++ os+ → map Some ms' ≡ map Some ms ++ ms+ →
      map present_painting ps' ≡ map present_painting ps ++ map (placed s.around (length s.outlines)) ps+ →
      Gathered d u s (done ++ x ∷ []) os' ms' ps'
  more os+ ms+ ps+ a o m p = record {
    outlines = o ∙ ap (λ (z : List (Option Outline)). map Some s.outlines ++ z) (sym a.outlines);
    maps =
        m ∙ (ap (λ (z : List (Option Matrix)). z ++ ms+) g.maps ∙
        (append_assoc (map Some s.maps) (maps_of d u done) ms+ ∙
        ap (λ (z : List (Option Matrix)). map Some s.maps ++ z) (sym a.maps)));
    styles =
        let f = placed s.around (length s.outlines) in
        let before = map present_painting s.styles in
        p ∙ (ap (λ (z : List Painting). z ++ map f ps+) g.styles ∙
        (append_assoc before (map f (paintings_of d u done)) (map f ps+) ∙
        ap (λ (z : List Painting). before ++ z)
        (sym (map-append f (paintings_of d u done) ps+) ∙ ap (map f) (sym a.paintings))));
  }

  -- Nothing changes.
  pub skips : Adds d u done x (outlines_of d u done) [] [] → os' ≡ os → ms' ≡ ms → ps' ≡ ps →
      Gathered d u s (done ++ x ∷ []) os' ms' ps'
  skips a o m p =
      more (outlines_of d u done) [] [] a (ap (map Some) o ∙ g.outlines)
      (ap (map Some) m ∙ sym (append-nil (map Some ms)))
      (ap (map present_painting) p ∙ sym (append-nil (map present_painting ps)))

  pub takes_leaf : (c : Outline) → own_outline d u x ≡ Some c → kind_of x ≡ leaf → is_hidden x ≡ false →
      os' ≡ os ++ c ∷ [] → ms' ≡ ms ++ identity ∷ [] → ps' ≡ ps → Gathered d u s (done ++ x ∷ []) os' ms' ps'
  takes_leaf c ce k v o m p =
      more (outlines_of d u done ++ own_outline d u x ∷ []) (Some identity ∷ []) [] (adds-leaf d u done x k v)
      (ap (map Some) o ∙ (map_push Some os c ∙ ((λ i. g.outlines i ++ sym ce i ∷ []) ∙
      append_assoc (map Some s.outlines) (outlines_of d u done) (own_outline d u x ∷ []))))
      (ap (map Some) m ∙ map_push Some ms identity)
      (ap (map present_painting) p ∙ sym (append-nil (map present_painting ps)))

  pub takes_trim : (from : ℕ) (left : List Outline) → kind_of x ≡ trim → is_hidden x ≡ false → from ≡ length s.outlines →
      trim_value d u x (drop from os) ≡ Some left → os' ≡ take from os ++ left → ms' ≡ ms → ps' ≡ ps →
      Gathered d u s (done ++ x ∷ []) os' ms' ps'
  takes_trim from left k v fe te o m p =
      let before : map Some (take from os) ≡ map Some s.outlines =
      sym (take-map Some from os) ∙ (ap (take from) g.outlines ∙
      take_at (map Some s.outlines) (outlines_of d u done) from (length-map s.outlines Some ∙ sym fe)) in
      let here : map Some (drop from os) ≡ outlines_of d u done =
      sym (drop-map Some from os) ∙ (ap (drop from) g.outlines ∙
      drop_at (map Some s.outlines) (outlines_of d u done) from (length-map s.outlines Some ∙ sym fe)) in
      let after : map Some left ≡ trimmed d u x (outlines_of d u done) =
      sym (trimmed-present d u x (drop from os) left te) ∙ ap (trimmed d u x) here in
      more (trimmed d u x (outlines_of d u done)) [] [] (adds-trim d u done x k v)
      (ap (map Some) o ∙ (map-append Some (take from os) left ∙ (λ i. before i ++ after i)))
      (ap (map Some) m ∙ sym (append-nil (map Some ms)))
      (ap (map present_painting) p ∙ sym (append-nil (map present_painting ps)))

  count : length os ≡ length s.outlines + length (outlines_of d u done)
  count =
      sym (length-map os Some) ∙ (ap length g.outlines ∙
      (length-append (map Some s.outlines) (outlines_of d u done) ∙
      ap (λ (z : ℕ). z + length (outlines_of d u done)) (length-map s.outlines Some)))

  pub takes_style : (k from first : ℕ) → kind_of x ≡ style → is_hidden x ≡ false → k ≡ length done →
      from ≡ length s.outlines → first ≡ length s.maps → os' ≡ os → ms' ≡ ms →
      map present_painting ps' ≡ map present_painting ps ++ record {
        place = s.around.place ++ k ∷ [];
        from = from;
        to = length os;
        matrix = map_product (map Some (reverse s.around.matrices));
        groups = map Some (reverse s.around.opacities);
        maps = map Some (drop first ms);
      } ∷ [] → Gathered d u s (done ++ x ∷ []) os' ms' ps'
  takes_style k from first y v ke fe me o m p =
      let f : from ≡ length s.outlines + 0 = omega (arith, fe) in
      let maps : map Some (drop first ms) ≡ maps_of d u done =
      sym (drop-map Some first ms) ∙ (ap (drop first) g.maps ∙
      drop_at (map Some s.maps) (maps_of d u done) first (length-map s.maps Some ∙ sym me)) in
      more (outlines_of d u done) [] (style_of d u done ∷ []) (adds-style d u done x y v)
      (ap (map Some) o ∙ g.outlines)
      (ap (map Some) m ∙ sym (append-nil (map Some ms)))
      (p ∙ (λ i. map present_painting ps ++ record {
        place = s.around.place ++ ke i ∷ [];
        from = f i;
        to = count i;
        matrix = map_product (map Some (reverse s.around.matrices));
        groups = map Some (reverse s.around.opacities);
        maps = maps i;
      } ∷ []))

  adds-given : (it : List Item) (m : Matrix) (o : ℤ) → kind_of x ≡ group → is_hidden x ≡ false →
      items_of x ≡ it → group_matrix d u x ≡ Some m → group_opacity d u x ≡ Some o →
      Adds d u done x (outlines_of d u done ++ outlines_of d u it)
      (map (λ a. then_both a (Some m)) (maps_of d u it))
      (map (lifted (length done) (Some m) (Some o) (length (outlines_of d u done))) (paintings_of d u it))
  adds-given it m o y v je me oe =
      let given : (items_of x, group_matrix d u x, group_opacity d u x) ≡ (it, Some m, Some o) =
      λ i. (je i, me i, oe i) in
      subst (λ (z : List Item × Option Matrix × Option ℤ).
      Adds d u done x (outlines_of d u done ++ outlines_of d u z.0)
      (map (λ a. then_both a z.1) (maps_of d u z.0))
      (map (lifted (length done) z.1 z.2 (length (outlines_of d u done))) (paintings_of d u z.0)))
      given (adds-group d u done x y v)

  pub takes_group : (it : List Item) (m : Matrix) (o : ℤ) (ms'' : List Matrix) (k first : ℕ) → kind_of x ≡ group →
      is_hidden x ≡ false → items_of x ≡ it → group_matrix d u x ≡ Some m → group_opacity d u x ≡ Some o →
      k ≡ length done → first ≡ length ms → map Some os' ≡ map Some os ++ outlines_of d u it →
      map Some ms'' ≡ map Some ms ++ maps_of d u it →
      ms' ≡ take first ms'' ++ map (λ a. matrix_product a m) (drop first ms'') →
      map present_painting ps' ≡
      map present_painting ps ++ map (placed (opened s.around k m o) (length os)) (paintings_of d u it) →
      Gathered d u s (done ++ x ∷ []) os' ms' ps'
  takes_group it m o ms'' k first y v je me oe ke fe oq mq m' p =
      let inner = outlines_of d u it in
      let n = length (outlines_of d u done) in
      let lift = lifted (length done) (Some m) (Some o) n in
      let place = placed s.around (length s.outlines) in
      let t : map Some (take first ms'') ≡ map Some ms =
      sym (take-map Some first ms'') ∙ (ap (take first) mq ∙
      take_at (map Some ms) (maps_of d u it) first (length-map ms Some ∙ sym fe)) in
      let r : map Some (drop first ms'') ≡ maps_of d u it =
      sym (drop-map Some first ms'') ∙ (ap (drop first) mq ∙
      drop_at (map Some ms) (maps_of d u it) first (length-map ms Some ∙ sym fe)) in
      let e = map_same (placed (opened s.around (length done) m o) (length s.outlines + n)) (λ q. place (lift q))
      (paintings_of d u it)
      (Each-from (λ q. placed (opened s.around (length done) m o) (length s.outlines + n) q ≡ place (lift q))
      (placed-lifted s.around (length s.outlines) n (length done) m o) (paintings_of d u it)) in
      more (outlines_of d u done ++ inner) (map (λ a. then_both a (Some m)) (maps_of d u it))
      (map lift (paintings_of d u it)) (adds-given it m o y v je me oe)
      (oq ∙ (ap (λ (z : List (Option Outline)). z ++ inner) g.outlines ∙
      append_assoc (map Some s.outlines) (outlines_of d u done) inner))
      (ap (map Some) m' ∙ (map-append Some (take first ms'') (map (λ a. matrix_product a m) (drop first ms'')) ∙
      (λ i. t i ++ (then_each m (drop first ms'') ∙ ap (map (λ a. then_both a (Some m))) r) i)))
      (p ∙ ((λ i. map present_painting ps ++
      map (placed (opened s.around (ke i) m o) (count i)) (paintings_of d u it)) ∙
      ap (λ (z : List Painting). map present_painting ps ++ z)
      (e ∙ sym (map-map lift place (paintings_of d u it)))))
