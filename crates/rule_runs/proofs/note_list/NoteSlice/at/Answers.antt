use Rattle.rule_runs.specs.declared.note_list.Brief.TheVariants.{Bottom, Param, Call}
use Rattle.rule_runs.proofs.NoteLists.{look, look-symbol}
use Rattle.rule_runs.proofs.note_list.NoteSlice.at.Goals as goal

pub returns-in-Bottom : goal.returns-in-Bottom
returns-in-Bottom g c =
    let l = c.self.inside in
    look l.states.now.items l.notes.now c.args.self.now c.self.view_is c.args.place c.requires Bottom Bottom c.in-Bottom.is

pub returns-in-Param : goal.returns-in-Param
returns-in-Param g c =
    let l = c.self.inside in
    look l.states.now.items l.notes.now c.args.self.now c.self.view_is c.args.place c.requires Bottom Param c.in-Param.is

pub returns-in-Symbol : goal.returns-in-Symbol
returns-in-Symbol g c =
    let l = c.self.inside in
    let s = c.index-states.result.now in
    look-symbol l.states.now.items l.notes.now c.args.self.now c.self.view_is c.args.place c.requires Bottom c.in-Symbol.symbol c.in-Symbol.states s c.self.invariant c.in-Symbol.is c.index-states.ensures

pub returns-in-Call : goal.returns-in-Call
returns-in-Call g c =
    let l = c.self.inside in
    look l.states.now.items l.notes.now c.args.self.now c.self.view_is c.args.place c.requires Bottom (Call c.in-Call.pair) c.in-Call.is
