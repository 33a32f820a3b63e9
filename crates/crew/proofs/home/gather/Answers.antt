use Rattle.std.proofs.Common.{rules, ◌≡◌, [], ◌+◌, ◌≤◌, ◌++◌, ◌∷◌, map, length, vec_capacity, sym, ap, ◌∙◌, arith}
use Rattle.std.specs.Prelude.{Some, None, Ok, Err, IsOk}
use Rattle.std.specs.List.{flat_map}
use Rattle.std.specs.Vec.Iter.{into_iter_items}
use Rattle.std.proofs.lemmas.List.{nil_from_length}
use Rattle.crew.specs.Home.{home_origins}
use Rattle.crew.proofs.HomeLemmas.{taken_back, fits, kept_made, fits_made, made_of_both, all_fit, all_come_back, all_are_made}
use Rattle.crew.proofs.home.gather.Goals as goal

pub loop-home-preserved-in-Some-Ok : goal.loop-home-preserved-in-Some-Ok
loop-home-preserved-in-Some-Ok g c =
    let f = home_origins g.W.Work in let held = g.W.Work.held in let origin = g.W.Work.origin in
    let rest = into_iter_items c.next.new.self in let made = c.in-Some-Ok.made.items in
    let jobs = c.loop-home.jobs.items in let dones = c.loop-home.dones.items in
    let is : into_iter_items c.loop-home.home-iterator ≡ Some (Ok c.in-Some-Ok.made) ∷ rest = search rules in
    let was : map held jobs ++ (map origin dones ++ (map origin made ++ flat_map f rest)) ≡ flat_map f c.args.homes.items =
    ap (λ xs. map held jobs ++ (map origin dones ++ flat_map f xs)) (sym is) ∙ c.loop-home.invariant.all in
    let room : length dones + length made ≤ vec_capacity c.args.dones = fits_made held origin jobs dones made (flat_map f rest) (flat_map f c.args.homes.items) was (vec_capacity c.args.dones) c.requires.room.1 in
    let ok : IsOk c.append-fits.result = c.append-fits.ensures.succeeds (let b = c.loop-home.invariant.room in search rules) in
    let items : c.append-fits.new.self.items ≡ dones ++ made = search rules in
    let each = rw is at c.loop-home.invariant.rest in
    record {
      all = ap (λ ds. map held jobs ++ (map origin ds ++ flat_map f rest)) items ∙ kept_made held origin jobs dones made (flat_map f rest) (flat_map f c.args.homes.items) was;
      made = rw items (made_of_both origin g.W.Work.outcome (g.W.Work.made c.args.work.now) dones made c.loop-home.invariant.made each.0);
      rest = each.1;
      none = c.loop-home.invariant.none;
      room = search rules;
    }

pub loop-home-preserved : goal.loop-home-preserved
loop-home-preserved g c =
    let rest = into_iter_items c.next.new.self in
    let is : into_iter_items c.loop-home.home-iterator ≡ None ∷ rest = search rules in
    let all = rw is at c.loop-home.invariant.all in
    let each = rw is at c.loop-home.invariant.rest in
    record {
      all = all;
      made = c.loop-home.invariant.made;
      rest = each.1;
      none = c.loop-home.invariant.none;
      room = c.loop-home.invariant.room;
    }

pub loop-home-preserved-in-Some-Err : goal.loop-home-preserved-in-Some-Err
loop-home-preserved-in-Some-Err g c =
    let f = home_origins g.W.Work in let held = g.W.Work.held in let origin = g.W.Work.origin in
    let rest = into_iter_items c.next.new.self in
    let back = c.in-Some-Err.back.items in
    let jobs = c.loop-home.jobs.items in let undone = c.undo_made.new.jobs.items in let dones = c.loop-home.dones.items in
    let is : into_iter_items c.loop-home.home-iterator ≡ Some (Err c.in-Some-Err.back) ∷ rest = search rules in
    let was : map held jobs ++ (map origin dones ++ (map held back ++ flat_map f rest)) ≡ flat_map f c.args.homes.items =
    ap (λ xs. map held jobs ++ (map origin dones ++ flat_map f xs)) (sym is) ∙ c.loop-home.invariant.all in
    let undo = c.undo_made.ensures.jobs in
    let room : length undone + length back ≤ vec_capacity c.args.jobs = fits held origin jobs undone back dones (flat_map f rest) (flat_map f c.args.homes.items) undo was (vec_capacity c.args.jobs) c.requires.room.0 in
    let ok : IsOk c.append-fits-in-Some-Err.result = c.append-fits-in-Some-Err.ensures.succeeds (let a = c.undo_made.ensures.room in let b = c.loop-home.invariant.room in search rules) in
    let items : c.append-fits-in-Some-Err.new.self.items ≡ undone ++ back = search rules in
    record {
      all = ap (λ xs. map held xs ++ (map origin c.undo_made.new.dones.items ++ flat_map f rest)) items
          ∙ ap (λ ds. map held (undone ++ back) ++ (map origin ds ++ flat_map f rest)) c.undo_made.ensures.none
          ∙ taken_back held origin jobs undone back dones (flat_map f rest) (flat_map f c.args.homes.items) undo was;
      made = search rules;
      rest = search rules;
      none = search rules;
      room = search rules;
    }

pub undo_made-requires-then-refused-clause-room : goal.undo_made-requires-then-refused-clause-room
undo_made-requires-then-refused-clause-room g c κs within =
    let held = g.W.Work.held in let origin = g.W.Work.origin in
    let empty : into_iter_items c.loop-home.home-iterator ≡ [] = nil_from_length _ (omega (arith, c.in-None.ensures.steps.0)) in
    let all = rw empty at c.loop-home.invariant.all in
    let room = c.requires.room.0 in let same = c.loop-home.invariant.room.0 in
    omega (arith, all_fit held origin c.loop-home.jobs.items c.loop-home.dones.items (flat_map (home_origins g.W.Work) c.args.homes.items) all (vec_capacity c.args.jobs) room, same)

pub returns-then-refused-clause-held : goal.returns-then-refused-clause-held
returns-then-refused-clause-held g c =
    let held = g.W.Work.held in let origin = g.W.Work.origin in
    let empty : into_iter_items c.loop-home.home-iterator ≡ [] = nil_from_length _ (omega (arith, c.in-None.ensures.steps.0)) in
    let all = rw empty at c.loop-home.invariant.all in
    all_come_back held origin c.loop-home.jobs.items c.loop-home.dones.items (flat_map (home_origins g.W.Work) c.args.homes.items) all c.undo_made-then-refused.new.jobs.items c.undo_made-then-refused.ensures.jobs

pub returns-clause-origin : goal.returns-clause-origin
returns-clause-origin g c =
    let held = g.W.Work.held in let origin = g.W.Work.origin in
    let empty : into_iter_items c.loop-home.home-iterator ≡ [] = nil_from_length _ (omega (arith, c.in-None.ensures.steps.0)) in
    let all = rw empty at c.loop-home.invariant.all in
    all_are_made held origin c.loop-home.jobs.items c.loop-home.dones.items (flat_map (home_origins g.W.Work) c.args.homes.items) all (c.loop-home.invariant.none c.if-refused.false)

pub returns-clause-made : goal.returns-clause-made
returns-clause-made g c = c.loop-home.invariant.made ∙ ap (map (g.W.Work.made c.args.work.now)) (returns-clause-origin g c)
