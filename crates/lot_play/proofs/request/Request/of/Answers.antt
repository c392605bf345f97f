use Rattle.std.proofs.Common.{◌≡◌, [], ◌∷◌, ap, ◌∙◌, sym, subst, codes, rules, List, ℕ}
use Rattle.lot_json.specs.NumberToken.{IsNumberToken}
use Rattle.lot_play.proofs.Requests.{two, three, check_request, frame_request, no_frame_request}
use Rattle.lot_play.proofs.request.Request.of.Goals as goal

pub returns-in-len2 : goal.returns-in-len2
returns-in-len2 c =
    let are : c.args.arguments.now ≡ c.command-item.result ∷ c.as_str-in-len2.result.now ∷ [] = sym c.items.ensures ∙ two c.items.result.now c.command-item.result c.document-item.result c.in-len2.len_at_least c.in-len2.len_below c.command-item.is c.document-item.is ∙ ap (λ (z : List ℕ). c.command-item.result ∷ z ∷ []) (sym c.as_str-in-len2.ensures) in
    let word : c.command-item.result ≡ codes "check" = search rules in
    check_request c.args.arguments.now c.command-item.result c.as_str-in-len2.result.now are word

pub returns-in-Some : goal.returns-in-Some
returns-in-Some c =
    let are : c.args.arguments.now ≡ c.command-item-then-this-lt4.result ∷ c.as_str-in-Some.result.now ∷ c.time-item.result ∷ [] = sym c.items.ensures ∙ three c.items.result.now c.command-item-then-this-lt4.result c.document-item-then-this-lt4.result c.time-item.result c.in-len3.len_at_least c.in-len3.len_below c.command-item-then-this-lt4.is c.document-item-then-this-lt4.is c.time-item.is ∙ ap (λ (z : List ℕ). c.command-item-then-this-lt4.result ∷ z ∷ c.time-item.result ∷ []) (sym c.as_str-in-Some.ensures) in
    let word : c.command-item-then-this-lt4.result ≡ codes "frame" = search rules in
    let bytes : c.as_bytes.result.now ≡ c.time-item.result = search rules in
    frame_request c.args.arguments.now c.command-item-then-this-lt4.result c.as_str-in-Some.result.now c.time-item.result are c.in-Some.time word
    (subst (λ (b : List ℕ). IsNumberToken b c.in-Some.time) bytes c.in-Some.ensures.token)
    (λ t h. c.in-Some.ensures.only t (subst (λ (b : List ℕ). IsNumberToken b t) (sym bytes) h))

pub returns-in-None : goal.returns-in-None
returns-in-None c =
    let are : c.args.arguments.now ≡ c.command-item-then-this-lt4.result ∷ c.document-item-then-this-lt4.result ∷ c.time-item.result ∷ [] = sym c.items.ensures ∙ three c.items.result.now c.command-item-then-this-lt4.result c.document-item-then-this-lt4.result c.time-item.result c.in-len3.len_at_least c.in-len3.len_below c.command-item-then-this-lt4.is c.document-item-then-this-lt4.is c.time-item.is in
    let bytes : c.as_bytes.result.now ≡ c.time-item.result = search rules in
    no_frame_request c.args.arguments.now c.command-item-then-this-lt4.result c.document-item-then-this-lt4.result c.time-item.result are (λ t h. c.in-None.ensures.none t (subst (λ (b : List ℕ). IsNumberToken b t) (sym bytes) h))
