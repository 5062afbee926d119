use Rattle.std.proofs.Common.{◌+◌, ◌<◌, ◌^◌, length, ap, sym, ◌∙◌, subst, map, arith}
use Rattle.std.proofs.lemmas.List.{length-map, map-append}
use Rattle.route_base.specs.Net.{Net, setting_of}
use Rattle.dimacs_reader.specs.GraphModel.{GraphModel, IsGoodGraph}
use Rattle.ban_expansion.specs.Bans.{IsNetFor}
use Rattle.ban_expansion.specs.Inside.GroupedNets.{HasClosed}
use Rattle.ban_expansion.proofs.ItemLists.{zip_length}
use Rattle.ban_expansion.proofs.TimedNets.{net_made}
use Rattle.ban_expansion.proofs.expansion.net_over.Goals as goal

pub overflow_sub-len : goal.overflow_sub-len
overflow_sub-len c =
    let some = c.requires.closed in
    let graph = subst IsGoodGraph c.graph.ensures.value c.node_count-nodes.ensures.good in
    let many = zip_length (HasClosed c.args.network.now some.0 c.args.window) c.args.groups.now.firsts (map (λ v. v.items) c.args.lists.items) some.1 in
    omega (arith, many, length-map c.args.lists.items (λ v. v.items), c.requires.groups.few, graph.arcs, c.args.lists.ok.0, c.len.ensures)

pub overflow_cast-len : goal.overflow_cast-len
overflow_cast-len c =
    let some = c.requires.closed in
    let graph = subst IsGoodGraph c.graph.ensures.value c.node_count-nodes.ensures.good in
    let many = zip_length (HasClosed c.args.network.now some.0 c.args.window) c.args.groups.now.firsts (map (λ v. v.items) c.args.lists.items) some.1 in
    omega (arith, many, length-map c.args.lists.items (λ v. v.items), c.requires.groups.few, graph.arcs, c.args.lists.ok.0, c.len-2.ensures)

pub parks_at-requires-clause-few : goal.parks_at-requires-clause-few
parks_at-requires-clause-few c =
    let some = c.requires.closed in
    let graph = subst IsGoodGraph c.graph.ensures.value c.node_count-nodes.ensures.good in
    let many = zip_length (HasClosed c.args.network.now some.0 c.args.window) c.args.groups.now.firsts (map (λ v. v.items) c.args.lists.items) some.1 in
    omega (
      arith,
      many,
      length-map c.args.lists.items (λ v. v.items),
      c.requires.groups.few,
      graph.arcs,
      c.args.lists.ok.0,
      c.len.ensures,
      c.len-2.ensures,
      c.if-timetable_count-len.false,
      c.timetable_count.ensures,
    )

pub new-requires : goal.new-requires
new-requires c =
    let some = c.requires.closed in
    let graph = subst IsGoodGraph c.graph.ensures.value c.node_count-nodes.ensures.good in
    let many = zip_length (HasClosed c.args.network.now some.0 c.args.window) c.args.groups.now.firsts (map (λ v. v.items) c.args.lists.items) some.1 in
    let few : length (map (λ v. v.items) c.args.lists.items) + length c.parks-parks.result.now.timetables < 2 ^ 32 = omega (
      arith,
      many,
      length-map c.args.lists.items (λ v. v.items),
      c.requires.groups.few,
      graph.arcs,
      c.args.lists.ok.0,
      c.len.ensures,
      c.if-timetable_count-len.false,
      c.timetable_count.ensures,
    ) in
    (net_made c.args.network.now some.0 c.args.window c.args.groups.now c.in_ok-arcs.arcs.items (map (λ v. v.items) c.args.lists.items)
    c.parks-parks.result.now (map (λ v. v.items) c.in_ok-shut.shut.items) c.in_ok-held.held.items
    c.graph.ensures.good graph c.requires.groups c.in_ok-arcs.ensures some.1
    c.parks-parks.ensures.value few c.in_ok-shut.ensures
    (c.node_count-nodes.ensures.value ∙ ap (λ (g : GraphModel). g.nodes) c.graph.ensures.value)
    (ap (map (λ v. v.items)) c.in_ok-append.ensures.items ∙ map-append (λ v. v.items) c.args.lists.items c.in_ok-shut.shut.items)
    (c.len-2.ensures ∙ c.args.lists.ok.0 ∙ sym (length-map c.args.lists.items (λ v. v.items)))
    c.in_ok-held.ensures).0

pub returns : goal.returns
returns c = λ vehicle sets.
    let some = c.requires.closed in
    let graph = subst IsGoodGraph c.graph.ensures.value c.node_count-nodes.ensures.good in
    let many = zip_length (HasClosed c.args.network.now some.0 c.args.window) c.args.groups.now.firsts (map (λ v. v.items) c.args.lists.items) some.1 in
    let few : length (map (λ v. v.items) c.args.lists.items) + length c.parks-parks.result.now.timetables < 2 ^ 32 = omega (
      arith,
      many,
      length-map c.args.lists.items (λ v. v.items),
      c.requires.groups.few,
      graph.arcs,
      c.args.lists.ok.0,
      c.len.ensures,
      c.if-timetable_count-len.false,
      c.timetable_count.ensures,
    ) in
    subst (λ (n : Net). IsNetFor c.args.network.now vehicle c.args.window (setting_of n)) (sym c.new.ensures)
    (net_made c.args.network.now vehicle c.args.window c.args.groups.now c.in_ok-arcs.arcs.items (map (λ v. v.items) c.args.lists.items)
    c.parks-parks.result.now (map (λ v. v.items) c.in_ok-shut.shut.items) c.in_ok-held.held.items
    c.graph.ensures.good graph c.requires.groups c.in_ok-arcs.ensures sets
    c.parks-parks.ensures.value few c.in_ok-shut.ensures
    (c.node_count-nodes.ensures.value ∙ ap (λ (g : GraphModel). g.nodes) c.graph.ensures.value)
    (ap (map (λ v. v.items)) c.in_ok-append.ensures.items ∙ map-append (λ v. v.items) c.args.lists.items c.in_ok-shut.shut.items)
    (c.len-2.ensures ∙ c.args.lists.ok.0 ∙ sym (length-map c.args.lists.items (λ v. v.items)))
    c.in_ok-held.ensures).1
