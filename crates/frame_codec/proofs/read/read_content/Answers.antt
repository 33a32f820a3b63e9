use Rattle.frame_codec.proofs.read.read_content.Goals as goal

pub returns-in-1 : goal.returns-in-1
returns-in-1 c = rw c.in-1.is c.read_leaf.ensures

pub returns-in-3 : goal.returns-in-3
returns-in-3 c = rw c.in-3.is c.read_index.ensures

pub returns-in-6 : goal.returns-in-6
returns-in-6 c = rw c.in-6.is c.read_leaf-in-6.ensures

pub returns-in-7 : goal.returns-in-7
returns-in-7 c = rw c.in-7.is c.read_index-in-7.ensures
