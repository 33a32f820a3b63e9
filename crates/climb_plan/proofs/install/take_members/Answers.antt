use Rattle.climb_plan.proofs.InstallingGroup.{split_members, others_home, pages_are}
use Rattle.climb_plan.proofs.install.take_members.Goals as goal

pub take_others-requires-clause-home : goal.take_others-requires-clause-home
take_others-requires-clause-home c =
    let split = split_members c.args.members.now c.first-item.result c.requires.some c.first-item.is in
    others_home c.args.tree.now c.take.new.self c.outdate.new.self c.first-item.result _ c.args.members.now split c.take.ensures.tree c.outdate.ensures c.requires.home

pub returns-clause-pages : goal.returns-clause-pages
returns-clause-pages c =
    let split = split_members c.args.members.now c.first-item.result c.requires.some c.first-item.is in
    pages_are c.args.tree.now c.take.new.self c.outdate.new.self c.first-item.result _ c.args.members.now c.args.room.items _ _ _ split c.take.ensures.tree c.outdate.ensures c.requires.home c.requires.room.0 c.push_reserved.ensures.items c.take.ensures.page c.take_others.ensures.pages
