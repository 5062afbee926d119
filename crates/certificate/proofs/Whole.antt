-- Whole texts, both ways.
use Rattle.std.proofs.Common.{◌≡◌, ℕ, ◌<◌, true, cond, Some, None, List, [], ◌∷◌, ◌++◌, length, map, flat_map, All, get_or, append_assoc, length-append, refl}
use Rattle.std.proofs.Common.{sym, ◌∙◌, ap, subst, arith}
use Rattle.std.specs.Prelude.{codes, option_and_then}
use Rattle.std.specs.Str.{bytes_eq}
use Rattle.std.proofs.lemmas.Option.{same_Some}
use Rattle.std.proofs.lemmas.Slice.Eq.{bytes_eq-Decides}
use Rattle.route_base.specs.declared.types.Bound.{Bound}
use Rattle.route_base.specs.declared.types.NodeId.{NodeId}
use Rattle.route_base.specs.declared.types.Route.{Route}
use Rattle.route_base.proofs.Logic.{then_some, behind_test}
use Rattle.cost_functions.specs.declared.pieces.Piece.{Piece}
use Rattle.certificate.specs.CertificateText.{Tokens, count_line, route_lines, bound_line, function_lines, all_pieces, certificate_lines}
use Rattle.certificate.specs.ByNode.{AreRising}
use Rattle.certificate.specs.Writable.{IsWritable, IsWritableNode, IsCertificateText}
use Rattle.certificate.specs.declared.Certificate.{Certificate}
use Rattle.certificate.specs.Inside.LineForms.{bound_in, count_in, leg_in, pair_in}
use Rattle.certificate.specs.Inside.Reading.{token_lines, first_line, neighbours_pass, may_follow_entry, route_in, function_in, routes_in, bounds_in}
use Rattle.certificate.specs.Inside.Reading.{functions_in, behind_title, is_end, certificate_in}
use Rattle.certificate.proofs.Blocks.{none_first, IsWritableRoute, IsWritableFunction, routes_found, routes_read, functions_found, functions_read}
use Rattle.certificate.proofs.Blocks.{counted_found, counted_again}
use Rattle.certificate.proofs.CleanLines.{lines_of_text, certificate_clean}
use Rattle.certificate.proofs.CutLines.{read_first, first_found}
use Rattle.certificate.proofs.CutText.{bytes_again, text_again, end_lines}
use Rattle.certificate.proofs.Items.{items_again, lines_again, lines_found}
use Rattle.certificate.proofs.LineForms.{count_found, IsWritableBound, bound_again, bound_found}
use Rattle.certificate.proofs.Orders.{entries_rise, entries_pass}

-- all lines of a certificate, and those behind each block, with an empty one behind the last line feed
abbrev last_lines : List Tokens
last_lines = (codes "end" ∷ []) ∷ ([] ∷ []) ∷ []

abbrev piece_lines : List (NodeId × List Piece) → List Tokens → List Tokens
piece_lines fs others = count_line (codes "pieces") (length (all_pieces fs)) ∷ (flat_map function_lines fs ++ others)

abbrev bound_lines : List (NodeId × Bound) → List Tokens → List Tokens
bound_lines bs others = count_line (codes "bounds") (length bs) ∷ (map bound_line bs ++ others)

abbrev pair_lines : List Route → List Tokens → List Tokens
pair_lines rs others = count_line (codes "pairs") (length rs) ∷ (flat_map route_lines rs ++ others)

abbrev title : Tokens
title = codes "lorry-certificate" ∷ codes "1" ∷ []

abbrev all_lines : Certificate → List Tokens
all_lines c = title ∷ pair_lines c.routes (bound_lines c.bounds (piece_lines c.functions last_lines))

regrouped : (t p b k e l : Tokens) (r n f : List Tokens)
    → ((((t ∷ p ∷ r) ++ (b ∷ n)) ++ (k ∷ f)) ++ (e ∷ [])) ++ (l ∷ []) ≡ t ∷ (p ∷ (r ++ (b ∷ (n ++ (k ∷ (f ++ (e ∷ l ∷ [])))))))
regrouped t p b k e l r n f =
    ap (λ ls. t ∷ (p ∷ ls)) (
    append_assoc ((r ++ (b ∷ n)) ++ (k ∷ f)) (e ∷ []) (l ∷ [])
    ∙ append_assoc (r ++ (b ∷ n)) (k ∷ f) (e ∷ l ∷ [])
    ∙ append_assoc r (b ∷ n) (k ∷ (f ++ (e ∷ l ∷ [])))
    )

all_lines_are : (c : Certificate) → certificate_lines c ++ ([] ∷ []) ∷ [] ≡ all_lines c
all_lines_are c = regrouped title (count_line (codes "pairs") (length c.routes)) (count_line (codes "bounds") (length c.bounds))
    (count_line (codes "pieces") (length (all_pieces c.functions))) (codes "end" ∷ []) ([] ∷ [])
    (flat_map route_lines c.routes) (map bound_line c.bounds) (flat_map function_lines c.functions)

-- what is written is read
module _ (c : Certificate) (writable : IsWritable c) where
  writable_routes : All IsWritableRoute c.routes
  writable_routes k d within = record {
    pair = record { arrival = writable.arrivals k d within; cost = writable.costs k d within };
    legs = writable.legs k d within;
    waits = writable.waits k d within;
  }

  writable_functions : All IsWritableFunction c.functions
  writable_functions k d within = record { node = writable.function_nodes k d within; pieces = writable.pieces k d within; filled = writable.filled k d within }

  routes_back : (others : List Tokens) → routes_in (pair_lines c.routes (bound_lines c.bounds others)) ≡ Some (c.routes, bound_lines c.bounds others)
  routes_back others =
      let behind = bound_lines c.bounds others in
      counted_again (codes "pairs") length (λ rs. true) route_in (flat_map route_lines c.routes ++ behind) c.routes behind
      (items_again route_in route_lines c.routes behind (routes_read c.routes behind writable_routes (omega arith)
      (none_first leg_in (count_line (codes "bounds") (length c.bounds)) (map bound_line c.bounds ++ others) refl)
      (ap (option_and_then _) (none_first pair_in (count_line (codes "bounds") (length c.bounds)) (map bound_line c.bounds ++ others) refl))))
      refl (omega (arith, length-append (flat_map route_lines c.routes) behind))

  bounds_back : (others : List Tokens) → bounds_in (bound_lines c.bounds (piece_lines c.functions others)) ≡ Some (c.bounds, piece_lines c.functions others)
  bounds_back others =
      let behind = piece_lines c.functions others in
      counted_again (codes "bounds") length (neighbours_pass may_follow_entry) (first_line bound_in) (map bound_line c.bounds ++ behind) c.bounds behind
      (lines_again bound_in bound_line c.bounds behind
      (λ k d within. bound_again (get_or c.bounds k d) (writable.bound_nodes k d within)
      (record { minutes = writable.bound_minutes k d within; cost = writable.bound_costs k d within }))
      (omega arith) (none_first bound_in (count_line (codes "pieces") (length (all_pieces c.functions))) (flat_map function_lines c.functions ++ others) refl))
      (entries_pass c.bounds writable.rising_bounds) (omega (arith, length-append (map bound_line c.bounds) behind))

  functions_back : functions_in (piece_lines c.functions last_lines) ≡ Some (c.functions, last_lines)
  functions_back =
      counted_again (codes "pieces") (λ fs. length (all_pieces fs)) (neighbours_pass may_follow_entry) function_in
      (flat_map function_lines c.functions ++ last_lines) c.functions last_lines
      (items_again function_in function_lines c.functions last_lines
      (functions_read c.functions last_lines writable_functions writable.rising_functions (omega arith) (λ v. refl) refl))
      (entries_pass c.functions writable.rising_functions) (omega (arith, length-append (flat_map function_lines c.functions) last_lines))

  title_back : (others : List Tokens) → 0 < length others → behind_title (title ∷ others) ≡ Some others
  title_back others some =
      ap (option_and_then (λ r. cond (bytes_eq r.0 (codes "1")) (Some r.1) None))
      (read_first (count_in (codes "lorry-certificate")) title others (codes "1") some refl)

  certificate_back : certificate_in (all_lines c) ≡ Some c
  certificate_back =
      let pieces = piece_lines c.functions last_lines in
      let bounds = bound_lines c.bounds pieces in
      ap (option_and_then (λ ls. option_and_then (λ r. option_and_then (λ b. option_and_then (λ f.
      cond (is_end f.1) (Some (record { routes = r.0; bounds = b.0; functions = f.0 })) None)
      (functions_in b.1)) (bounds_in r.1)) (routes_in ls))) (title_back (pair_lines c.routes bounds) (omega arith))
      ∙ ap (option_and_then (λ r. option_and_then (λ b. option_and_then (λ f.
      cond (is_end f.1) (Some (record { routes = r.0; bounds = b.0; functions = f.0 })) None)
      (functions_in b.1)) (bounds_in r.1))) (routes_back pieces)
      ∙ ap (option_and_then (λ b. option_and_then (λ f.
      cond (is_end f.1) (Some (record { routes = c.routes; bounds = b.0; functions = f.0 })) None)
      (functions_in b.1))) (bounds_back last_lines)
      ∙ ap (option_and_then (λ f. cond (is_end f.1) (Some (record { routes = c.routes; bounds = c.bounds; functions = f.0 })) None)) functions_back

-- what is read is written so
title_found : (lines : List Tokens) (others : List Tokens) → behind_title lines ≡ Some others → lines ≡ title ∷ others
title_found lines others is =
    let head = then_some (first_line (count_in (codes "lorry-certificate")) lines) (λ r. cond (bytes_eq r.0 (codes "1")) (Some r.1) None) others is in
    let test = behind_test (bytes_eq head.0.0 (codes "1")) (Some head.0.1) others head.2 in
    let first = first_found (count_in (codes "lorry-certificate")) lines head.0.0 head.0.1 head.1 in
    first.lines_are
    ∙ ap (λ l. l ∷ head.0.1) (count_found (codes "lorry-certificate") first.line head.0.0 first.is_read)
    ∙ ap (λ t. (codes "lorry-certificate" ∷ t ∷ []) ∷ head.0.1) ((bytes_eq-Decides head.0.0 (codes "1")).0 test.0)
    ∙ ap (λ ls. title ∷ ls) (same_Some head.0.1 others test.1)

routes_block : (lines : List Tokens) (rs : List Route) (others : List Tokens) → routes_in lines ≡ Some (rs, others)
    → (lines ≡ pair_lines rs others) × All IsWritableRoute rs
routes_block lines rs others is =
    let block = counted_found (codes "pairs") length (λ xs. true) route_in lines rs others is in
    let found = routes_found block.rest rs others block.items_are in
    (block.lines_are ∙ ap (λ ls. count_line (codes "pairs") (length rs) ∷ ls) found.0, found.1)

pub record AreBoundsRead (lines : List Tokens) (bs : List (NodeId × Bound)) (others : List Tokens) : Type 0 where
  pub lines_are : lines ≡ bound_lines bs others
  pub each : All (λ e. IsWritableNode e.0 × IsWritableBound e.1) bs
  pub rising : AreRising bs

bounds_block : (lines : List Tokens) (bs : List (NodeId × Bound)) (others : List Tokens) → bounds_in lines ≡ Some (bs, others) → AreBoundsRead lines bs others
bounds_block lines bs others is =
    let block = counted_found (codes "bounds") length (neighbours_pass may_follow_entry) (first_line bound_in) lines bs others is in
    let found = lines_found bound_in bound_line (λ e. IsWritableNode e.0 × IsWritableBound e.1)
    (λ ts e k. (let f = bound_found ts e k in (f.0, (f.1, f.2)))) block.rest bs others block.items_are in
    record {
      lines_are = block.lines_are ∙ ap (λ ls. count_line (codes "bounds") (length bs) ∷ ls) found.0;
      each = found.1;
      rising = entries_rise bs block.pass;
    }

pub record AreFunctionsRead (lines : List Tokens) (fs : List (NodeId × List Piece)) (others : List Tokens) : Type 0 where
  pub lines_are : lines ≡ piece_lines fs others
  pub each : All IsWritableFunction fs
  pub rising : AreRising fs

functions_block : (lines : List Tokens) (fs : List (NodeId × List Piece)) (others : List Tokens) → functions_in lines ≡ Some (fs, others)
    → AreFunctionsRead lines fs others
functions_block lines fs others is =
    let block = counted_found (codes "pieces") (λ gs. length (all_pieces gs)) (neighbours_pass may_follow_entry) function_in lines fs others is in
    let found = functions_found block.rest fs others block.items_are in
    record {
      lines_are = block.lines_are ∙ ap (λ ls. count_line (codes "pieces") (length (all_pieces fs)) ∷ ls) found.0;
      each = found.1;
      rising = entries_rise fs block.pass;
    }

certificate_found : (lines : List Tokens) (c : Certificate) → certificate_in lines ≡ Some c → (lines ≡ all_lines c) × IsWritable c
certificate_found lines c is =
    let first = then_some (behind_title lines) (λ ls. option_and_then (λ r. option_and_then (λ b. option_and_then (λ f.
    cond (is_end f.1) (Some (record { routes = r.0; bounds = b.0; functions = f.0 })) None) (functions_in b.1)) (bounds_in r.1)) (routes_in ls)) c is in
    let second = then_some (routes_in first.0) (λ r. option_and_then (λ b. option_and_then (λ f.
    cond (is_end f.1) (Some (record { routes = r.0; bounds = b.0; functions = f.0 })) None) (functions_in b.1)) (bounds_in r.1)) c first.2 in
    let rs = second.0.0 in
    let third = then_some (bounds_in second.0.1) (λ b. option_and_then (λ f.
    cond (is_end f.1) (Some (record { routes = rs; bounds = b.0; functions = f.0 })) None) (functions_in b.1)) c second.2 in
    let bs = third.0.0 in
    let fourth = then_some (functions_in third.0.1) (λ f. cond (is_end f.1) (Some (record { routes = rs; bounds = bs; functions = f.0 })) None) c third.2 in
    let fs = fourth.0.0 in
    let made : Certificate = record { routes = rs; bounds = bs; functions = fs } in
    let end = behind_test (is_end fourth.0.1) (Some made) c fourth.2 in
    let routes = routes_block first.0 rs second.0.1 second.1 in
    let bounds = bounds_block second.0.1 bs third.0.1 third.1 in
    let functions = functions_block third.0.1 fs fourth.0.1 fourth.1 in
    subst (λ (d : Certificate). (lines ≡ all_lines d) × IsWritable d) (same_Some made c end.1) (
      title_found lines first.0 first.1
          ∙ ap (λ ls. title ∷ ls) (routes.0
          ∙ ap (λ ls. pair_lines rs ls) (bounds.lines_are
          ∙ ap (λ ls. bound_lines bs ls) (functions.lines_are
          ∙ ap (λ ls. piece_lines fs ls) (end_lines fourth.0.1 end.0)))),
      record {
        arrivals = λ k d within. (routes.1 k d within).pair.arrival;
        costs = λ k d within. (routes.1 k d within).pair.cost;
        legs = λ k d within. (routes.1 k d within).legs;
        waits = λ k d within. (routes.1 k d within).waits;
        bound_nodes = λ k d within. (bounds.each k d within).0;
        bound_minutes = λ k d within. (bounds.each k d within).1.minutes;
        bound_costs = λ k d within. (bounds.each k d within).1.cost;
        rising_bounds = bounds.rising;
        function_nodes = λ k d within. (functions.each k d within).node;
        pieces = λ k d within. (functions.each k d within).pieces;
        filled = λ k d within. (functions.each k d within).filled;
        rising_functions = functions.rising;
      },
    )

-- both ways for bytes
pub text_found : (bytes : List ℕ) (c : Certificate) → certificate_in (token_lines bytes) ≡ Some c → IsCertificateText bytes c
text_found bytes c is =
    let found = certificate_found (token_lines bytes) c is in
    record {
      writable = found.1;
      text = sym (bytes_again bytes (certificate_lines c ++ ([] ∷ []) ∷ []) (found.0 ∙ sym (all_lines_are c)) ∙ text_again (certificate_lines c));
    }

pub text_back : (bytes : List ℕ) (c : Certificate) → IsCertificateText bytes c → certificate_in (token_lines bytes) ≡ Some c
text_back bytes c is =
    ap (λ bs. certificate_in (token_lines bs)) (sym is.text)
    ∙ ap certificate_in (lines_of_text (certificate_lines c) (certificate_clean c) ∙ all_lines_are c)
    ∙ certificate_back c is.writable

pub one_certificate : (bytes : List ℕ) (c d : Certificate) → IsCertificateText bytes c → IsCertificateText bytes d → c ≡ d
one_certificate bytes c d first second = same_Some c d (sym (text_back bytes c first) ∙ text_back bytes d second)
