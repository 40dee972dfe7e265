-- Edits of a store as steps of the machine.
use Rattle.std.proofs.Common.{◌≡◌, ◌≤◌, ◌<◌, ℕ, max, List, [], Option, None, Some, inl, inr, refl, sym, ap, ◌∙◌, subst, arith}
use Rattle.std.proofs.lemmas.Option.{same_Some}
use Rattle.tree_outside.proofs.Beside.{Stays-refl}
use Rattle.tree_outside.specs.Files.{Told}
use Rattle.plain_tree.specs.Allowed.{AreLawfulParts as AreLawfulEditParts}
use Rattle.plain_tree.specs.Edits.{edited, number_of}
use Rattle.plain_tree.specs.Lawful.{IsName}
use Rattle.plain_tree.specs.NodePairs.{Pair}
use Rattle.plain_tree.specs.Tree.{Tree, trees, node_count}
use Rattle.plain_tree.specs.declared.edit.Edit.{Edit}
use Rattle.slt_grammar.specs.Grammars.{IsGrammar, size}
use Rattle.slt_grammar.specs.Keyed.{rules_of}
use Rattle.slt_grammar.specs.Ranks.{greatest_rank}
use Rattle.slt_grammar.specs.declared.rules.Rule.{Rule}
use Rattle.tree_updates.specs.Stores.{HasMarks, IsEdited, IsRefused, IsStoreFor}
use Rattle.tree_updates.specs.declared.store.EditError.{EditError}
use Rattle.tree_updates.specs.declared.store.EditError.TheVariants as error
use Rattle.tree_updates.specs.declared.store.Store.{Store}
use Rattle.xml_nodes.proofs.Bytes.{spells-fragment}
use Rattle.xml_profile.proofs.ValueChars.{value_chars}
use Rattle.store_core.specs.Acts.{Act, Load, LoadGrammar, Check, Query, ShowAll, Rename, Insert, Append, Delete, Value, Attr, Copy, file_read, fragment_given, name_given, node_asked, value_given}
use Rattle.store_core.specs.Editing.{AsksEdit, Edits, GivesNoName, IsDue, IsEdit, IsSettledWhereDue, WantsEdit, one_more}
use Rattle.store_core.specs.Errors.{AsksBelow, GivesNoEdit, IsNoEdit, IsNoFragment, IsNoName, IsNoValue, refusal_of}
use Rattle.store_core.specs.Machine.{Begins, Does, Refuses}
use Rattle.store_core.specs.Refusals.{Cause, IsReady}
use Rattle.store_core.specs.StoreOf.{IsCounted, held_of, parts_of}
use Rattle.store_core.specs.Texts.{answer_line}
use Rattle.store_core.specs.Worlds.{AreLawfulParts, Held, World, told_files, with_names, world}
use Rattle.store_core.specs.declared.answer.Answer.{Answer}
use Rattle.store_core.specs.declared.answer.Refusal.{Refusal}
use Rattle.store_core.specs.declared.answer.Refusal.TheVariants as no
use Rattle.store_words.specs.declared.words.Settings.{Settings}
use Rattle.store_core.specs.declared.loaded.Loaded.{Loaded}

-- what is within the settings' rank and one that is no greater than another is within that one
pub ranks-below : (rank old made new : ℕ) → made ≤ old → new ≤ max rank made → new ≤ max rank old
ranks-below rank old made new low within = omega arith

-- a store that is held lawfully is one for its document
pub store-held : (s : Store) (h : AreLawfulParts (parts_of s)) → IsCounted s → IsStoreFor s h.tree
store-held s h c = record { stand = h.stand; small = h.small; swept = h.swept; counts = c.counts; index = c.index }

pub held-store : (s : Store) (t : Tree) → IsStoreFor s t → IsGrammar (rules_of s.grammar.rules) → AreLawfulParts (parts_of s)
held-store s t i g = record { tree = t; stand = i.stand; small = i.small; grammar = g; swept = i.swept }

pub counted-store : (s : Store) (t : Tree) → IsStoreFor s t → HasMarks s → IsCounted s
counted-store s t i m = record { counts = i.counts; index = i.index; marks = m }

-- a store with the same rules and texts, and with other names
pub held-still : (l : Loaded) (s : Store) (names : List Pair) → s.names ≡ names → rules_of s.grammar.rules ≡ rules_of l.store.grammar.rules → s.texts.texts ≡ l.store.texts.texts
    → Some (held_of (record { store = s; edits = l.edits })) ≡ Some (record { parts = with_names (parts_of l.store) names; edits = l.edits })
held-still l s names n g x =
    ap (λ (ns : List Pair). Some (record { parts = record { names = ns; rules = rules_of s.grammar.rules; texts = s.texts.texts }; edits = l.edits })) n
    ∙ ap (λ (G : List Rule). Some (record { parts = record { names = names; rules = G; texts = s.texts.texts }; edits = l.edits })) g
    ∙ ap (λ (ts : List (List ℕ)). Some (record { parts = record { names = names; rules = rules_of l.store.grammar.rules; texts = ts }; edits = l.edits })) x

-- an edit that a command asks for gives what is lawful
pub asked-parts : (act : Act) (e : Edit) → AsksEdit act e → AreLawfulEditParts e
asked-parts (Rename number name) e (is, same) = rw same is
asked-parts (Insert number bytes) e (fragment, spelled, same) = rw same (spells-fragment bytes (trees fragment) spelled).0
asked-parts (Append number bytes) e (fragment, spelled, same) = rw same (spells-fragment bytes (trees fragment) spelled).0
asked-parts (Delete number) e same = rw same tt
asked-parts (Value number bytes) e (value, spelled, same) = rw same (value_chars bytes value spelled)
asked-parts (Attr number name bytes) e (value, is, spelled, same) = rw same (is, value_chars bytes value spelled)
asked-parts (Copy number) e same = rw same tt
asked-parts act e asked = absurd asked

-- the node of which it asks
pub asked-node : (act : Act) (e : Edit) → AsksEdit act e → node_asked act ≡ Some (number_of e)
asked-node (Rename number name) e (is, same) = rw same refl
asked-node (Insert number bytes) e (fragment, spelled, same) = rw same refl
asked-node (Append number bytes) e (fragment, spelled, same) = rw same refl
asked-node (Delete number) e same = rw same refl
asked-node (Value number bytes) e (value, spelled, same) = rw same refl
asked-node (Attr number name bytes) e (value, is, spelled, same) = rw same refl
asked-node (Copy number) e same = rw same refl
asked-node act e asked = absurd asked

-- what a command gives makes no edit where its name is no Name, and where its bytes spell no fragment, or no value
pub name-not-taken : (refusal : Refusal) (act : Act) (name : List ℕ) → name_given act ≡ Some name → IsNoName refusal name → GivesNoEdit refusal act
name-not-taken no.BadName act name gives why = (name, gives, why)
name-not-taken no.Memory act name gives why = tt
name-not-taken refusal act name gives why = absurd why

pub fragment-not-read : (refusal : Refusal) (act : Act) (bytes : List ℕ) → fragment_given act ≡ Some bytes → IsNoFragment refusal bytes → GivesNoEdit refusal act
fragment-not-read no.BadFragment act bytes gives why = (bytes, gives, why)
fragment-not-read no.Memory act bytes gives why = tt
fragment-not-read refusal act bytes gives why = absurd why

pub value-not-read : (refusal : Refusal) (act : Act) (bytes : List ℕ) → (GivesNoName act → ⊥) → value_given act ≡ Some bytes → IsNoValue refusal bytes → GivesNoEdit refusal act
value-not-read no.BadValue act bytes named gives why = (named, (bytes, gives, why))
value-not-read no.Memory act bytes named gives why = tt
value-not-read refusal act bytes named gives why = absurd why

-- it gives no bad name where it gives none, and where it gives a Name
pub gives-none : (act : Act) → name_given act ≡ None → GivesNoName act → ⊥
gives-none act none (name, gives, why) = absurd (cc)

pub gives-name : (act : Act) (name : List ℕ) → name_given act ≡ Some name → IsName name → GivesNoName act → ⊥
gives-name act name gives is (other, given, why) = why (subst IsName (same_Some name other (sym gives ∙ given)) is)

-- a command that gives what makes no edit comes to none
pub given-not-asked : (refusal : Refusal) (act : Act) (count : ℕ) → AsksBelow act count → GivesNoEdit refusal act → IsNoEdit refusal act count
given-not-asked no.NoNode act count below why = absurd why
given-not-asked refusal act count below why = (below, why)

-- what an edit does is what its command does
does-edit : (settings : Settings) (act : Act) (old new : World) (out : List ℕ) → IsEdit act → Edits settings act old out new → Does settings act old out new
does-edit settings (Rename number name) old new out is edits = edits
does-edit settings (Insert number bytes) old new out is edits = edits
does-edit settings (Append number bytes) old new out is edits = edits
does-edit settings (Delete number) old new out is edits = edits
does-edit settings (Value number bytes) old new out is edits = edits
does-edit settings (Attr number name bytes) old new out is edits = edits
does-edit settings (Copy number) old new out is edits = edits
does-edit settings act old new out is edits = absurd is

begins-nothing : (act : Act) (refusal : Refusal) (old : World) → IsEdit act → Begins act refusal old []
begins-nothing (Query query) refusal old is = absurd is
begins-nothing (ShowAll query) refusal old is = absurd is
begins-nothing act refusal old is = refl

-- it reads no file
reads-nothing : (act : Act) (name : List ℕ) → IsEdit act → file_read act ≡ Some name → ⊥
reads-nothing (Load name) n is reads = absurd is
reads-nothing (LoadGrammar name) n is reads = absurd is
reads-nothing (Check name) n is reads = absurd is
reads-nothing act n is reads = absurd cc

ready-to-edit : (act : Act) (held : Held) (told : Option Told) (count : ℕ) → IsEdit act → IsReady act (world (Some held) told count)
ready-to-edit act held told count is = record { document = λ needs. refl; file = λ name reads. absurd (reads-nothing act name is reads) }

module _ (settings : Settings) (act : Act) (is : IsEdit act) (l : Loaded) (told : Option Told) (count : ℕ) (t : Tree) (i : IsStoreFor l.store t) where
  abbrev before : World
  before = world (Some (held_of l)) told count

  -- no edit comes of it
  pub edit-not-asked : (refusal : Refusal) (total : ℕ) → total ≡ node_count t → IsNoEdit refusal act total → Refuses act refusal before [] before
  edit-not-asked refusal total many why = record {
    begins = begins-nothing act refusal before is;
    cause = cause refusal why;
    leaves = inl (record { state = refl; files = Stays-refl (told_files told) });
  }
    where
      cause : (refusal : Refusal) → IsNoEdit refusal act total → Cause refusal act before before
      cause no.NoNode (number, asked, past) = (number, asked, record { parts = parts_of l.store; tree = t; held = refl; stand = i.stand; past = omega (arith, many, past) })
      cause no.BadName ((number, asked, low), none) = (inl (number, asked, record { parts = parts_of l.store; tree = t; held = refl; stand = i.stand; there = omega (arith, many, low) }), none)
      cause no.BadFragment ((number, asked, low), none) = ((number, asked, record { parts = parts_of l.store; tree = t; held = refl; stand = i.stand; there = omega (arith, many, low) }), none)
      cause no.BadValue ((number, asked, low), (named, none)) = ((number, asked, record { parts = parts_of l.store; tree = t; held = refl; stand = i.stand; there = omega (arith, many, low) }), named, none)
      cause no.Memory why = ready-to-edit act (held_of l) told count is
      cause refusal why = absurd why.1

  module _ (e : Edit) (asked : AsksEdit act e) (total : ℕ) (many : total ≡ node_count t) (low : number_of e < total) where
    abbrev wants : WantsEdit act before
    wants = record { held = held_of l; tree = t; edit = e; is = refl; stand = i.stand; asked = asked; there = omega (arith, many, low) }

    -- the edit was made, and the grammar settled where that was due
    pub edit-done : (mid : Store) (new : Loaded) (answer : Answer) → IsEdited t e l.store mid → IsStoreFor new.store (edited t e) → new.store.names ≡ mid.names
        → size (rules_of new.store.grammar.rules) ≤ size (rules_of mid.grammar.rules) → ((IsDue settings (one_more l.edits) → ⊥) → rules_of new.store.grammar.rules ≡ rules_of mid.grammar.rules)
        → greatest_rank (rules_of new.store.grammar.rules) ≤ max settings.rank (greatest_rank (rules_of mid.grammar.rules))
        → IsSettledWhereDue settings (one_more l.edits) (held_of new) (node_count (edited t e)) answer → Does settings act before (answer_line answer) (world (Some (held_of new)) told count)
    edit-done mid new answer made store names small kept ranks settled =
        let grown = made.names in
        does-edit settings act before (world (Some (held_of new)) told count) (answer_line answer) is (record {
          wants = wants;
          allowed = made.allowed;
          held = held_of new;
          state = refl;
          stand = store.stand;
          names = rw names grown;
          made = rules_of mid.grammar.rules;
          few = made.size;
          size = small;
          kept = kept;
          ranks = ranks-below settings.rank (greatest_rank (rules_of l.store.grammar.rules)) (greatest_rank (rules_of mid.grammar.rules)) (greatest_rank (rules_of new.store.grammar.rules)) made.ranks ranks;
          answer = answer;
          settled = settled;
          files = Stays-refl (told_files told);
          printed = refl;
        })

    abbrev after : Store → World
    after s = world (Some (held_of (record { store = s; edits = l.edits }))) told count

    -- it was refused
    pub edit-refused : (s : Store) (err : EditError) → IsRefused t e err l.store s → Refuses act (refusal_of err) before [] (after s)
    edit-refused s (error.NoNode n) r = record {
      begins = begins-nothing act no.NoNode before is;
      cause = (number_of e, asked-node act e asked, record { parts = parts_of l.store; tree = t; held = refl; stand = i.stand; past = r.cause.1 });
      leaves = inl (record { state = held-still l s l.store.names r.names r.rules r.texts; files = Stays-refl (told_files told) });
    }
    edit-refused s (error.NotAllowed kind) r = record {
      begins = begins-nothing act no.NotAllowed before is;
      cause = inl (wants, r.cause.1);
      leaves = inl (record { state = held-still l s l.store.names r.names r.rules r.texts; files = Stays-refl (told_files told) });
    }
    edit-refused s error.TooMany r = record {
      begins = begins-nothing act no.TooMany before is;
      cause = inr (wants, r.cause.0, r.cause.1);
      leaves = inl (record { state = held-still l s l.store.names r.names r.rules r.texts; files = Stays-refl (told_files told) });
    }
    edit-refused s error.Memory r = record {
      begins = begins-nothing act no.Memory before is;
      cause = ready-to-edit act (held_of l) told count is;
      leaves = elim r.names [
        | inl same ↦ inl (record { state = held-still l s l.store.names same r.rules r.texts; files = Stays-refl (told_files told) })
        | inr grown ↦ inr (refl, inl (record { wants = wants; allowed = grown.0; names = s.names; grown = grown.1; state = held-still l s s.names refl r.rules r.texts; files = Stays-refl (told_files told) }))
      ];
    }
