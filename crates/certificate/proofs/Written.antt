-- The text that the writer has appended.
use Rattle.std.proofs.Common.{◌≡◌, ℕ, List, [], ◌∷◌, ◌++◌, length, flat_map, append_assoc, sym, ◌∙◌, ap}
use Rattle.std.specs.Prelude.{codes}
use Rattle.std.proofs.lemmas.List.Folds.{flat_map-map}
use Rattle.route_base.specs.declared.types.Route.{Route}
use Rattle.certificate.specs.declared.Certificate.{Certificate}
use Rattle.certificate.specs.CertificateText.{line_text, leg_line, pair_line, route_lines, bound_line, function_lines, count_line, all_pieces}
use Rattle.certificate.specs.CertificateText.{certificate_text_of}
use Rattle.certificate.specs.Inside.Spelling.{leg_text, route_text, bound_text, function_text}
use Rattle.certificate.proofs.Spelled.{spelled}

-- a route, appended in two parts
pub route_pushed : (out lined ended : List ℕ) (route : Route) → lined ≡ out ++ line_text (pair_line route) → ended ≡ lined ++ flat_map leg_text route.legs
    → ended ≡ out ++ route_text route
route_pushed out lined ended route lined-is ended-is =
    ended-is
    ∙ ap (λ t. t ++ flat_map leg_text route.legs) lined-is
    ∙ append_assoc out (line_text (pair_line route)) (flat_map leg_text route.legs)
    ∙ ap (λ t. out ++ (line_text (pair_line route) ++ t)) (sym (flat_map-map line_text leg_line route.legs))

-- a certificate, appended in eight parts
pub all_pushed : (c : Certificate) (first pairs routes bounds nodes pieces functions last : List ℕ)
    → first ≡ line_text (codes "lorry-certificate" ∷ codes "1" ∷ [])
    → pairs ≡ first ++ line_text (count_line (codes "pairs") (length c.routes)) → routes ≡ pairs ++ flat_map route_text c.routes
    → bounds ≡ routes ++ line_text (count_line (codes "bounds") (length c.bounds)) → nodes ≡ bounds ++ flat_map bound_text c.bounds
    → pieces ≡ nodes ++ line_text (count_line (codes "pieces") (length (all_pieces c.functions))) → functions ≡ pieces ++ flat_map function_text c.functions
    → last ≡ functions ++ line_text (codes "end" ∷ []) → last ≡ certificate_text_of c
all_pushed c first pairs routes bounds nodes pieces functions last first-is pairs-is routes-is bounds-is nodes-is pieces-is functions-is last-is =
    let whole = spelled route_lines bound_line function_lines (codes "lorry-certificate" ∷ codes "1" ∷ []) (count_line (codes "pairs") (length c.routes))
    (count_line (codes "bounds") (length c.bounds)) (count_line (codes "pieces") (length (all_pieces c.functions)))
    (codes "end" ∷ []) c.routes c.bounds c.functions in
    last-is
    ∙ ap (λ t. t ++ line_text (codes "end" ∷ [])) (functions-is
    ∙ ap (λ t. t ++ flat_map function_text c.functions) (pieces-is
    ∙ ap (λ t. t ++ line_text (count_line (codes "pieces") (length (all_pieces c.functions)))) (nodes-is
    ∙ ap (λ t. t ++ flat_map bound_text c.bounds) (bounds-is
    ∙ ap (λ t. t ++ line_text (count_line (codes "bounds") (length c.bounds))) (routes-is
    ∙ ap (λ t. t ++ flat_map route_text c.routes) (pairs-is
    ∙ ap (λ t. t ++ line_text (count_line (codes "pairs") (length c.routes))) first-is))))))
    ∙ sym whole
