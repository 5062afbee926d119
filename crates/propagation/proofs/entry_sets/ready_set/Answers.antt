use Rattle.std.proofs.Common.{◌<◌, get_or, length, sym, refl, subst, get_or-set_same}
use Rattle.std.specs.Prelude.{Vec}
use Rattle.std.specs.declared.alloc.Global.{Global}
use Rattle.propagation.specs.Inside.EntrySets.{AreEntries}
use Rattle.propagation.specs.declared.entry_sets.EntrySet.{EntrySet}
use Rattle.propagation.proofs.EntryLists.{sets_at, sets_kept}
use Rattle.propagation.proofs.entry_sets.ready_set.Goals as goal

pub place_of-requires-clause-made : goal.place_of-requires-clause-made
place_of-requires-clause-made c =
    let net = c.args.net.now in
    let until = c.args.until in
    sets_at net until c.make_room.new.sets c.args.list c.args.closed.now c.index_mut.result.now
    (c.in_ok-make_room.ensures.kept net until c.requires.entries) c.requires.own c.in_ok-make_room.ensures.within c.index_mut.ensures.value

pub returns-clause-entries : goal.returns-clause-entries
returns-clause-entries c =
    let net = c.args.net.now in
    let until = c.args.until in
    sets_kept net until c.make_room.new.sets _ c.args.list c.args.closed.now c.place_of.new.list
    (c.in_ok-make_room.ensures.kept net until c.requires.entries) c.requires.own c.in_ok-make_room.ensures.within refl c.in_ok-place.ensures.made

pub returns-clause-set : goal.returns-clause-set
returns-clause-set c =
    let until = c.args.until in
    let own = c.place_of.new.list in
    let place = c.in_ok-place.place in
    record {
      within = λ d. subst (λ (w : Vec EntrySet Global). place < length w.items)
          (sym (get_or-set_same c.make_room.new.sets.lists.items c.args.list own d c.in_ok-make_room.ensures.within)) c.in_ok-place.ensures.within;
      entries = λ d e. subst (λ (w : Vec EntrySet Global). AreEntries c.args.closed.now until c.args.minutes (get_or w.items place e).set)
          (sym (get_or-set_same c.make_room.new.sets.lists.items c.args.list own d c.in_ok-make_room.ensures.within))
          (subst (λ n. AreEntries c.args.closed.now until n (get_or own.items place e).set) (c.in_ok-place.ensures.minutes e)
          (c.in_ok-place.ensures.made place e c.in_ok-place.ensures.within));
    }
