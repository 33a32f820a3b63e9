use Rattle.std.proofs.Common.{rules, ◌≡◌, [], ◌∷◌, ◌++◌, map, reverse, length, refl, sym, ap, ◌∙◌, arith, append-nil, length-append}
use Rattle.std.proofs.lemmas.List.{reverse-reverse}
use Rattle.crew.proofs.HomeLemmas.{made_of_both}
use Rattle.crew.proofs.InTurnLemmas.{all_before, one_done, one_back}
use Rattle.crew.proofs.in_turn.work_in_turn.Goals as goal

pub loop-job-init : goal.loop-job-init
loop-job-init g c = record {
  accepted = search rules;
  room = search rules;
  way_back = search rules;
  origin = rw (c.in-Ok.ensures.items, c.reverse.ensures.items, reverse-reverse c.args.jobs.items) refl;
  made = rw c.in-Ok.ensures.items refl;
}

pub returns-in-Back-clause-held : goal.returns-in-Back-clause-held
returns-in-Back-clause-held g c =
    let held = g.W.Work.held in let origin = g.W.Work.origin in
    let jobs = c.pop.new.self.items in let dones = c.loop-job.dones.items in
    let popped : c.loop-job.jobs.items ≡ jobs ++ c.in-Some.job ∷ [] = c.in-Some.ensures.items in
    let was = rw popped at c.loop-job.invariant.origin in
    c.undo_all.ensures ∙ ap (λ ds. map origin ds ++ map held c.reverse-in-Back.new.self.items) c.look_ahead.ensures.items
    ∙ ap (λ js. map origin dones ++ map held js) (c.reverse-in-Back.ensures.items ∙ ap reverse c.push_reserved-in-Back.ensures.items)
    ∙ one_back held origin jobs c.in-Some.job dones (map held c.args.jobs.items) was c.in-Back.job c.in-Back.ensures.back

pub loop-job-preserved : goal.loop-job-preserved
loop-job-preserved g c =
    let held = g.W.Work.held in let origin = g.W.Work.origin in
    let jobs = c.pop.new.self.items in let dones = c.loop-job.dones.items in let done = c.in-Done.done in
    let popped : c.loop-job.jobs.items ≡ jobs ++ c.in-Some.job ∷ [] = c.in-Some.ensures.items in
    let was = rw popped at c.loop-job.invariant.origin in
    let made = c.in-Done.ensures.made ∙ ap (g.W.Work.made c.args.work.now) (sym c.in-Done.ensures.origin) in
    let fewer = ap length popped in let split = length-append jobs (c.in-Some.job ∷ []) in
    let pushed : c.push_reserved.new.self.items ≡ dones ++ done ∷ [] = c.push_reserved.ensures.items ∙ ap (λ ds. ds ++ done ∷ []) c.look_ahead.ensures.items in
    let more = ap length pushed in let joined = length-append dones (done ∷ []) in
    record {
      accepted = all_before (λ job. g.W.Work.accepts c.args.work.now (held job)) jobs c.in-Some.job (rw popped at c.loop-job.invariant.accepted);
      room = omega (arith, fewer, split, more, joined, c.push_reserved.ensures.capacity, c.look_ahead.ensures.room, c.loop-job.invariant.room);
      way_back = omega (arith, fewer, split, more, joined, c.in-Some.ensures.capacity, c.loop-job.invariant.way_back);
      origin = rw pushed (one_done held origin jobs c.in-Some.job dones (map held c.args.jobs.items) was done c.in-Done.ensures.origin);
      made = rw pushed (made_of_both origin g.W.Work.outcome (g.W.Work.made c.args.work.now) dones (done ∷ []) c.loop-job.invariant.made (ap (λ m. m ∷ []) made));
    }

pub returns-clause-origin : goal.returns-clause-origin
returns-clause-origin g c =
    let none : c.loop-job.jobs.items ≡ [] = search rules in
    let all = rw none at c.loop-job.invariant.origin in
    sym (append-nil (map g.W.Work.origin c.loop-job.dones.items)) ∙ all

pub returns-clause-made : goal.returns-clause-made
returns-clause-made g c = c.loop-job.invariant.made ∙ ap (map (g.W.Work.made c.args.work.now)) (returns-clause-origin g c)
