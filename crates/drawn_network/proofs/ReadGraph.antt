-- A drawn graph file is read line by line, without a fault, to its end.
use Rattle.std.proofs.Common.{◌≡◌, ℕ, ◌+◌, ◌*◌, ◌<◌, ◌≤◌, Some, None, List, [], ◌∷◌, ◌++◌, length, map}
use Rattle.std.proofs.Common.{refl, sym, ap, subst, ◌∙◌, append_assoc, length-append, arith}
use Rattle.std.specs.Prelude.{All, codes, flat_map}
use Rattle.std.specs.List.{AllByRecursion}
use Rattle.std.proofs.Math.Nat.{mul-le-mul_left}
use Rattle.std.proofs.lemmas.Bool.{le-leb, lt-ltb, le-ltb}
use Rattle.std.proofs.lemmas.List.{append-nil}
use Rattle.std.proofs.lemmas.List.Elements.{All-head, All-tail}
use Rattle.route_base.specs.declared.limits.TheConstants.{LONGEST_DRIVE, MOST_ARCS, MOST_NODES}
use Rattle.dimacs_reader.specs.Faults.{cause_in, cause_of_arc, cause_of_problem, end_cause_from, end_cause_in, fault_of}
use Rattle.dimacs_reader.specs.GraphModel.{graph_of, graph_with, nodes_from}
use Rattle.dimacs_reader.specs.Inside.Builder.{stated_after}
use Rattle.dimacs_reader.specs.Lines.{line_of_tokens}
use Rattle.dimacs_reader.specs.Stated.{Stated}
use Rattle.dimacs_reader.specs.declared.builder.Sizes.{Sizes}
use Rattle.dimacs_reader.specs.declared.graph.GraphArc.{GraphArc}
use Rattle.dimacs_reader.specs.declared.lines.Line.{Line}
use Rattle.dimacs_reader.specs.declared.lines.Line.TheVariants.{Ignored, Problem}
use Rattle.dimacs_reader.proofs.ReadSoFar.{HasReadLines, lines_next, read_none, read_more, end_faultless, end_graph}
use Rattle.net_generator.specs.Generated.{graph_file, graph_text, road_text}
use Rattle.net_generator.specs.Layout.{roads_drawn}
use Rattle.net_generator.specs.Sizes.{IsDrawable}
use Rattle.net_generator.specs.declared.layout.Road.{Road}
use Rattle.drawn_network.specs.DrawnGraph.{arc_of_road}
use Rattle.drawn_network.proofs.DrawnRoads.{IsGoodRoad, roads_good, roads_few}
use Rattle.drawn_network.proofs.GraphLines.{comment_rest, problem_rest, road_rest, line_of_road, problem_text, comment_tokens, problem_tokens, road_tokens}
use Rattle.drawn_network.proofs.GraphLines.{comment_says, problem_says, road_says, graph_lines, road_lines}
use Rattle.drawn_network.proofs.TokenLines.{IsVisible, line_before, line_with, line_cut_off, line_means, line_shortens}

-- one more line, which says something without a cause
line_read : (bytes rest : List ℕ) (number : ℕ) (stated : Stated) (token : List ℕ) (more : List (List ℕ)) (line : Line)
    → HasReadLines bytes (line_before token more rest) number stated → AllByRecursion IsVisible (token ∷ more) → line_of_tokens (token ∷ more) ≡ line
    → cause_in stated line ≡ None → HasReadLines bytes rest (number + 1) (stated_after stated line)
line_read bytes rest number stated token more line h tokens says none =
    read_more bytes (line_before token more rest) rest number stated line h (record {
      cut = lines_next (line_before token more rest) (line_with token more) rest line (line_cut_off token more rest tokens)
          (sym (line_means token more tokens ∙ says));
      less = line_shortens token more rest;
    }) none

-- a good road has no cause where it is announced
road_passes : (stated : Stated) (sizes : Sizes) (road : Road) → stated.sizes ≡ Some sizes → IsGoodRoad sizes.nodes road
    → length stated.arcs < sizes.arcs → cause_in stated (line_of_road road) ≡ None
road_passes stated sizes road is good room =
    ap (λ o. cause_of_arc o (length stated.arcs) road.tail road.head road.minutes) is
    ∙ rw (
      le-leb 1 road.tail good.tail.0,
      le-leb road.tail sizes.nodes good.tail.1,
      le-leb 1 road.head good.head.0,
      le-leb road.head sizes.nodes good.head.1,
      le-leb 1 road.minutes (omega (arith, good.minutes.0)),
      le-leb road.minutes LONGEST_DRIVE (omega (arith, good.minutes.1)),
      lt-ltb (length stated.arcs) sizes.arcs room,
    ) refl

-- a file whose arcs so far are read, and whose others are these roads
record IsGraphRead (bytes : List ℕ) (number : ℕ) (stated : Stated) (sizes : Sizes) (roads : List Road) : Type 0 where
  read : HasReadLines bytes (flat_map road_text roads) number stated
  sizes_are : stated.sizes ≡ Some sizes
  nodes : sizes.nodes ≤ MOST_NODES
  good : All (IsGoodRoad sizes.nodes) roads
  count : length stated.arcs + length roads ≡ sizes.arcs

-- one road more
road_read : (bytes : List ℕ) (number : ℕ) (stated : Stated) (sizes : Sizes) (road : Road) (roads : List Road)
    → IsGraphRead bytes number stated sizes (road ∷ roads) → IsGraphRead bytes (number + 1) (stated_after stated (line_of_road road)) sizes roads
road_read bytes number stated sizes road roads h =
    let good = All-head (IsGoodRoad sizes.nodes) road roads h.good in
    let begins = subst (λ (rest : List ℕ). HasReadLines bytes rest number stated) (road_lines road roads) h.read in
    record {
      read = line_read bytes (flat_map road_text roads) number stated (codes "a") (road_rest road) (line_of_road road) begins
          (road_tokens sizes.nodes road h.nodes good) (road_says sizes.nodes road h.nodes good)
          (road_passes stated sizes road h.sizes_are good (omega (arith, h.count)));
      sizes_are = h.sizes_are;
      nodes = h.nodes;
      good = All-tail (IsGoodRoad sizes.nodes) road roads h.good;
      count = omega (arith, h.count, length-append stated.arcs (arc_of_road road ∷ []));
    }

-- the file ends where all arcs that the problem line announces are read
ends_well : (stated : Stated) (sizes : Sizes) → stated.sizes ≡ Some sizes → sizes.arcs ≤ length stated.arcs → end_cause_in stated ≡ None
ends_well stated sizes is all =
    ap (λ o. end_cause_from o (length stated.arcs)) is ∙ rw (le-ltb (length stated.arcs) sizes.arcs all) refl

-- the file has no fault, and states this graph
pub record ReadsGraph (bytes : List ℕ) (nodes : ℕ) (arcs : List GraphArc) : Type 0 where
  pub faultless : fault_of bytes ≡ None
  pub graph : graph_of bytes ≡ graph_with nodes arcs

roads_read : (bytes : List ℕ) (number : ℕ) (stated : Stated) (sizes : Sizes) (roads : List Road) → IsGraphRead bytes number stated sizes roads
    → ReadsGraph bytes sizes.nodes (stated.arcs ++ map arc_of_road roads)
roads_read bytes number stated sizes [] h = record {
  faultless = end_faultless bytes [] number stated h.read refl (ends_well stated sizes h.sizes_are (omega (arith, h.count)));
  graph =
      sym (end_graph bytes [] number stated h.read refl)
      ∙ ap (λ o. graph_with (nodes_from o) stated.arcs) h.sizes_are
      ∙ ap (graph_with sizes.nodes) (sym (append-nil stated.arcs));
}
roads_read bytes number stated sizes (road ∷ roads) h =
    let later = roads_read bytes (number + 1) (stated_after stated (line_of_road road)) sizes roads (road_read bytes number stated sizes road roads h) in
    record {
      faultless = later.faultless;
      graph = later.graph ∙ ap (graph_with sizes.nodes) (append_assoc stated.arcs (arc_of_road road ∷ []) (map arc_of_road roads));
    }

problem_passes : (n m : ℕ) → 1 ≤ n → n ≤ MOST_NODES → m ≤ MOST_ARCS → cause_of_problem None n m ≡ None
problem_passes n m some nodes arcs = rw (le-leb 1 n some, le-leb n MOST_NODES nodes, le-leb m MOST_ARCS arcs) refl

-- before the problem line
abbrev nothing_stated : Stated
nothing_stated = record { sizes = None; arcs = [] }

-- the comment and the problem line are read
begun : (number rows columns : ℕ) (roads : List Road) → IsDrawable number rows columns → length roads ≤ MOST_ARCS
    → HasReadLines (graph_text number rows columns roads) (flat_map road_text roads) 3 (stated_after nothing_stated (Problem (rows * columns) (length roads)))
begun number rows columns roads d few =
    let bytes = graph_text number rows columns roads in
    let n = rows * columns in
    let m = length roads in
    let some : 1 ≤ n = omega (arith, d.rows_low, mul-le-mul_left rows d.columns_low) in
    let start = subst (λ (rest : List ℕ). HasReadLines bytes rest 1 nothing_stated) (graph_lines number rows columns roads) (read_none bytes) in
    let comment = line_read bytes (problem_text n roads) 1 nothing_stated (codes "c") (comment_rest number rows columns) Ignored start
    (comment_tokens number rows columns (omega (arith, d.number_high)) (omega (arith, d.rows_high)) (omega (arith, d.columns_high)))
    (comment_says number rows columns) refl in
    line_read bytes (flat_map road_text roads) 2 nothing_stated (codes "p") (problem_rest n m) (Problem n m) comment
    (problem_tokens n m (omega (arith, d.nodes)) (omega (arith, few)))
    (problem_says n m (omega (arith, d.nodes)) (omega (arith, few)))
    (problem_passes n m some (omega (arith, d.nodes)) few)

-- a graph file of good roads
text_read : (number rows columns : ℕ) (roads : List Road) → IsDrawable number rows columns → All (IsGoodRoad (rows * columns)) roads
    → length roads ≤ MOST_ARCS → ReadsGraph (graph_text number rows columns roads) (rows * columns) (map arc_of_road roads)
text_read number rows columns roads d good few =
    let sizes : Sizes = record { nodes = rows * columns; arcs = length roads } in
    roads_read (graph_text number rows columns roads) 3 (record { sizes = Some sizes; arcs = [] }) sizes roads
    (record { read = begun number rows columns roads d few; sizes_are = refl; nodes = omega (arith, d.nodes); good = good; count = omega arith })

-- the graph file that is drawn
pub drawn_read : (number rows columns : ℕ) → IsDrawable number rows columns
    → ReadsGraph (graph_file number rows columns) (rows * columns) (map arc_of_road (roads_drawn number rows columns).values)
drawn_read number rows columns d =
    text_read number rows columns (roads_drawn number rows columns).values d (roads_good number rows columns d.columns_low)
    (omega (arith, roads_few number rows columns, d.nodes))
