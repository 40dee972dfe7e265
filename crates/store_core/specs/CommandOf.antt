-- The act that a command of the program asks for.
use Rattle.store_core.specs.Acts.{Act, Load, LoadGrammar, Save, SaveGrammar, Show, Query, ShowAll, Count, Rename, Insert, Append, Delete, Value, Attr, Copy, RenameAll, DeleteAll, Check, Repair, RepairWide, Generate}
use Rattle.store_core.specs.declared.command.Command.{Command}
use Rattle.store_core.specs.declared.command.Command.TheVariants as c

abbrev pub act_of : Command → Act
act_of (c.Load name) = Load name.now
act_of (c.LoadGrammar name) = LoadGrammar name.now
act_of (c.Save name) = Save name.now
act_of (c.SaveGrammar name) = SaveGrammar name.now
act_of (c.Show number) = Show number
act_of (c.Query text) = Query text.now
act_of (c.ShowAll text) = ShowAll text.now
act_of (c.Count text) = Count text.now
act_of (c.Rename number name) = Rename number name.now
act_of (c.Insert number bytes) = Insert number bytes.now
act_of (c.Append number bytes) = Append number bytes.now
act_of (c.Delete number) = Delete number
act_of (c.Value number bytes) = Value number bytes.now
act_of (c.Attr number name bytes) = Attr number name.now bytes.now
act_of (c.Copy number) = Copy number
act_of (c.RenameAll name query) = RenameAll name.now query.now
act_of (c.DeleteAll query) = DeleteAll query.now
act_of (c.Check name) = Check name.now
act_of c.Repair = Repair
act_of c.RepairWide = RepairWide
act_of (c.Generate records) = Generate records
