use Rattle.layer_promises.proofs.cursors.cursor_told.Goals as goal

pub returns-clause-some : goal.returns-clause-some
returns-clause-some g c = c.new.ensures.some

pub returns-clause-inside : goal.returns-clause-inside
returns-clause-inside g c = c.new.ensures.inside

pub returns-clause-begins : goal.returns-clause-begins
returns-clause-begins g c = c.new.ensures.begins
