-- Rules and texts stand for a document with names that have grown by those that an edit brings.
use Rattle.std.proofs.Common.{ℕ, List, [], Option, Some, None}
use Rattle.std.specs.Prelude.{MatchOption}
use Rattle.plain_tree.specs.declared.edit.Edit.{Edit}
use Rattle.plain_tree.specs.declared.edit.Edit.TheVariants.{Rename, Insert, Append, Delete, Value, Attr, Copy}
use Rattle.plain_tree.specs.declared.kind.Kind.{Kind}
use Rattle.plain_tree.specs.declared.kind.Kind.TheVariants.{Document, Element, Attribute, Text, Comment, Instruction}
use Rattle.plain_tree.specs.Additions.{new_pairs, renamed_pair}
use Rattle.plain_tree.specs.Allowed.{MayBeNamed, IsAllowedAt}
use Rattle.plain_tree.specs.EditLaws.{IsEditOf}
use Rattle.plain_tree.specs.Lawful.{IsName, IsLawfulName}
use Rattle.plain_tree.specs.Numbers.{kind_of}
use Rattle.plain_tree.specs.Places.{Place, place_at}
use Rattle.plain_tree.specs.Tree.{Tree, Trees, none, more, trees}
use Rattle.slt_grammar.specs.Grammars.{value}
use Rattle.slt_grammar.specs.Standing.{StandsFor}
use Rattle.slt_grammar.specs.declared.rules.Rule.{Rule}
use Rattle.fcns_encoding.specs.Interning.{Pair, Interns}
use Rattle.fcns_encoding.specs.Laws.{AreLawful}
use Rattle.fcns_encoding.proofs.InternLemmas.{codes-kept, Interns-distinct}
use Rattle.fcns_encoding.proofs.LawfulLemmas.{none-lawful, lawful-cons, trees-lawful, Interns-lawful}

pub stands-grown : (G : List Rule) (old pairs new : List Pair) (values : List (List ℕ)) (t : Tree) → StandsFor G old values t → Interns old pairs new → AreLawful pairs → StandsFor G new values t
stands-grown G old pairs new values t s i l = record {
  document = s.document;
  distinct = Interns-distinct old pairs new i s.distinct;
  lawful = Interns-lawful old pairs new i s.lawful l;
  code = (codes-kept old pairs new i).1 (more t none) (value G) s.code;
  texts = s.texts;
}

lawful-named : (name : List ℕ) (kind : Kind) (before behind : Trees) → IsName name → MayBeNamed name kind before behind → IsLawfulName kind name
lawful-named name Element before behind n h = n
lawful-named name Attribute before behind n h = n
lawful-named name Instruction before behind n h = h
lawful-named name Document before behind n h = absurd h
lawful-named name Text before behind n h = absurd h
lawful-named name Comment before behind n h = absurd h

lawful-renamed : (name : List ℕ) (n : ℕ) (o : Option Place) → IsName name → MatchOption o ⊥ (IsAllowedAt (Rename n name)) → AreLawful (renamed_pair name o)
lawful-renamed name n None l h = none-lawful
lawful-renamed name n (Some p) l h = lawful-cons (kind_of p.here, name) [] (lawful-named name (kind_of p.here) p.before p.behind l h) none-lawful

-- the names that an edit brings are lawful
pub new-pairs-lawful : (t : Tree) (e : Edit) → IsEditOf t e → AreLawful (new_pairs t e)
new-pairs-lawful t (Rename n name) h = lawful-renamed name n (place_at t n) h.parts h.allowed
new-pairs-lawful t (Insert n fragment) h = trees-lawful (trees fragment) h.parts.1.1
new-pairs-lawful t (Append n fragment) h = trees-lawful (trees fragment) h.parts.1.1
new-pairs-lawful t (Attr n name w) h = lawful-cons (Attribute, name) [] h.parts.0 none-lawful
new-pairs-lawful t (Delete n) h = none-lawful
new-pairs-lawful t (Value n w) h = none-lawful
new-pairs-lawful t (Copy n) h = none-lawful

pub stands-with-new-names : (G : List Rule) (old new : List Pair) (values : List (List ℕ)) (t : Tree) (e : Edit) → StandsFor G old values t → IsEditOf t e → Interns old (new_pairs t e) new → StandsFor G new values t
stands-with-new-names G old new values t e s h i = stands-grown G old (new_pairs t e) new values t s i (new-pairs-lawful t e h)
