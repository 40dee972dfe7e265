-- Edits of all nodes of a query as steps of the machine.
use Rattle.std.proofs.Common.{◌≡◌, ◌≤◌, ◌<◌, ◌^◌, ℕ, zero, suc, max, List, [], ◌∷◌, take, sum_by, Option, Some, inl, inr, refl, sym, subst, arith}
use Rattle.tree_outside.proofs.Beside.{Stays-refl}
use Rattle.tree_outside.specs.Files.{Told}
use Rattle.plain_tree.specs.NodePairs.{Pair}
use Rattle.plain_tree.specs.Tree as trees
use Rattle.plain_tree.specs.Tree.{Tree, node_count}
use Rattle.slt_grammar.specs.Grammars.{IsGrammar, IsSwept, size, value}
use Rattle.slt_grammar.specs.Keyed.{KeyedRule, rules_of}
use Rattle.slt_grammar.specs.Ranks.{greatest_rank}
use Rattle.slt_grammar.specs.Segments.{listed}
use Rattle.slt_grammar.specs.Standing.{StandsFor}
use Rattle.slt_grammar.specs.declared.rules.Rule.{Rule}
use Rattle.fcns_encoding.specs.Interning.{Interns}
use Rattle.fcns_encoding.specs.Laws.{AreLawful}
use Rattle.fcns_encoding.proofs.LawfulLemmas.{none-lawful, lawful-cons}
use Rattle.segment_counts.specs.Counting.{AreCounts}
use Rattle.segment_counts.specs.Weights.{node_weight}
use Rattle.segment_counts.proofs.Coded.{weight-coded}
use Rattle.digram_index.specs.Linked.{IsIndexOf}
use Rattle.preorder_address.specs.Marks.{AreMarks}
use Rattle.preorder_address.specs.declared.marks.Mark.{Mark}
use Rattle.selecting_automaton.specs.Words.{Selection, word_algebra, word_downward}
use Rattle.bulk_rewrite.specs.DeletedAll.{AreDeleted, IsNotDeletedFor, deleting_run}
use Rattle.bulk_rewrite.specs.Making.{AreFew}
use Rattle.bulk_rewrite.specs.RenamedAll.{AreRenamed, IsRefusedFor}
use Rattle.bulk_rewrite.specs.declared.renaming_all.BulkError.{BulkError}
use Rattle.bulk_rewrite.specs.declared.renaming_all.BulkError.TheVariants.{NotAllowed, Memory}
use Rattle.bulk_rewrite.proofs.GrowingNames.{some-grown}
use Rattle.bulk_rewrite.proofs.RenamingAll.{renamed-lawful}
use Rattle.text_list.specs.RoomyTexts.{RoomyTexts}
use Rattle.tree_updates.specs.Stores.{HasMarks, IsStoreFor}
use Rattle.tree_updates.specs.declared.store.Store.{Store}
use Rattle.tree_updates.proofs.AppliedMarks.{marked}
use Rattle.tree_updates.proofs.GrownNames.{stands-grown}
use Rattle.tree_updates.proofs.RegrownNames.{counts-grown}
use Rattle.store_core.specs.Acts.{Act, Load, LoadGrammar, Check, Query, ShowAll, RenameAll, DeleteAll, file_read, query_edited}
use Rattle.store_core.specs.BulkEditing.{BulkEdit, Renaming, Deletion, AreFewFor, AsksBulkEdit, EditsAll, IsBulkEdit, MayEditAll, WantsBulkEdit, edited_all, pairs_brought}
use Rattle.store_core.specs.BulkStores.{IsEditedAll, IsLeftByAll, IsRefusedForAll, hits_in}
use Rattle.store_core.specs.Editing.{GivesNoName, IsDue, IsSettledWhereDue, one_more}
use Rattle.store_core.specs.Errors.{IsNoPlainQuery, refusal_of_all}
use Rattle.store_core.specs.Machine.{Begins, Refuses}
use Rattle.store_core.specs.Refusals.{IsReady}
use Rattle.store_core.specs.Selecting.{IsPlainSelectorOf, Selects, SpellsPlain}
use Rattle.store_core.specs.StoreOf.{held_of, parts_of}
use Rattle.store_core.specs.Texts.{answer_line}
use Rattle.store_core.specs.Worlds.{World, told_files, world}
use Rattle.store_core.specs.declared.answer.Answer.{Answer}
use Rattle.store_core.specs.declared.answer.Refusal.{Refusal}
use Rattle.store_core.specs.declared.answer.Refusal.TheVariants as no
use Rattle.store_core.specs.declared.loaded.Loaded.{Loaded}
use Rattle.store_words.specs.declared.words.Settings.{Settings}
use Rattle.selecting_automaton.proofs.Unmarked.{codes-unmarked, plain-literals}
use Rattle.xpath_parser.specs.Meant.{meant_paths}
use Rattle.store_core.proofs.Asked.{plain_refused, same_world}
use Rattle.store_core.proofs.BulkCounts.{edited-few}
use Rattle.store_core.proofs.Edited.{held-still, ranks-below}

-- the value of rules that stand for a document weighs as little as its nodes are few
pub few-weighed : (G : List Rule) (names : List Pair) (values : List (List ℕ)) (t : Tree) → StandsFor G names values t → node_count t < 2 ^ 63 → sum_by node_weight (listed (value G) []) < 2 ^ 63
few-weighed G names values t stand small = omega (arith, weight-coded names t (value G) stand.code, small)

pub few-edited : (edit : BulkEdit) (numbers : List ℕ) (t : Tree) → node_count t < 2 ^ 63 → node_count (edited_all edit numbers t) < 2 ^ 63
few-edited edit numbers t small = omega (arith, edited-few edit numbers t, small)

first-lawful : (k : ℕ) (ps : List Pair) → AreLawful ps → AreLawful (take k ps)
first-lawful zero ps a = none-lawful
first-lawful (suc k) [] a = none-lawful
first-lawful (suc k) (p ∷ ps) a = lawful-cons p (take k ps) (a 0 p.0 p.1 refl) (first-lawful k ps (λ i. a (suc i)))

brought-lawful : (edit : BulkEdit) (numbers : List ℕ) (t : Tree) → MayEditAll edit numbers t → AreLawful (pairs_brought edit numbers t)
brought-lawful (Renaming name) numbers t may = renamed-lawful numbers name t may
brought-lawful Deletion numbers t may = none-lawful

-- why not all nodes are renamed or deleted is why the edit is not made
pub renaming-refused : (error : BulkError) (numbers name : List ℕ) (t : Tree) (old new : List Pair) → IsRefusedFor error numbers name old new t → IsRefusedForAll error (Renaming name) numbers t old new
renaming-refused NotAllowed numbers name t old new why = why
renaming-refused Memory numbers name t old new why = why

pub deletion-refused : (error : BulkError) (numbers : List ℕ) (t : Tree) (names : List Pair) → IsNotDeletedFor error numbers t → IsRefusedForAll error Deletion numbers t names names
deletion-refused NotAllowed numbers t names why = (why, refl)
deletion-refused Memory numbers t names why = inl refl

module _ (edit : BulkEdit) (selector : Selection) (s : Store) (t : Tree) (i : IsStoreFor s t) where
  abbrev numbers : List ℕ
  numbers = hits_in selector s

  -- the store's names have grown
  regrown : (pairs names : List Pair) → IsGrammar (rules_of s.grammar.rules) → AreLawful pairs → Interns s.names pairs names → IsStoreFor (record s { names = names }) t
  regrown pairs names lawful allowed come = record {
    stand = stands-grown (rules_of s.grammar.rules) s.names pairs names s.texts.texts t i.stand come allowed;
    small = i.small;
    swept = i.swept;
    counts = counts-grown (rules_of s.grammar.rules) s.names pairs names t s.counts lawful i.swept i.stand.code come i.counts;
    index = i.index;
  }

  same-names : (names : List Pair) → names ≡ s.names → IsStoreFor (record s { names = names }) t
  same-names names same = subst (λ (ns : List Pair). IsStoreFor (record s { names = ns }) t) (sym same) i

  still-stored : (error : BulkError) (names : List Pair) → IsGrammar (rules_of s.grammar.rules) → IsRefusedForAll error edit numbers t s.names names → IsStoreFor (record s { names = names }) t
  still-stored NotAllowed names lawful why = same-names names why.1
  still-stored Memory names lawful why =
      elim why [
        | inl same ↦ same-names names same
        | inr grown ↦ regrown (take grown.1.0 (pairs_brought edit numbers t)) names lawful (first-lawful grown.1.0 (pairs_brought edit numbers t) (brought-lawful edit numbers t grown.0)) grown.1.1
      ]

  -- the edit is refused, and the names may have grown
  pub left-by-all : (error : BulkError) (names : List Pair) → IsGrammar (rules_of s.grammar.rules) → IsRefusedForAll error edit numbers t s.names names → IsLeftByAll edit selector t error s (record s { names = names })
  left-by-all error names lawful why = record { cause = why; store = still-stored error names lawful why; rules = refl; texts = refl }

  -- memory was wanting once all names were there
  pub left-named : (names : List Pair) (new : Store) → IsGrammar (rules_of s.grammar.rules) → MayEditAll edit numbers t → Interns s.names (pairs_brought edit numbers t) names → new ≡ record s { names = names } → IsLeftByAll edit selector t Memory s new
  left-named names new lawful may come same =
      subst (λ (x : Store). IsLeftByAll edit selector t Memory s x) (sym same) (left-by-all Memory names lawful (inr (may, some-grown s.names (pairs_brought edit numbers t) names come)))

  -- the edit is refused, and all is as it was
  pub left-as-it-was : (error : BulkError) (new : Store) → IsRefusedForAll error edit numbers t s.names s.names → new ≡ s → IsLeftByAll edit selector t error s new
  left-as-it-was error new why same = subst (λ (x : Store). IsLeftByAll edit selector t error s x) (sym same) (record { cause = why; store = i; rules = refl; texts = refl })

-- an edit of a store with other marks
pub left-marked : (edit : BulkEdit) (selector : Selection) (s : Store) (t : Tree) (m : List Mark) (error : BulkError) (new : Store) → IsLeftByAll edit selector t error (marked s m) new → IsLeftByAll edit selector t error s new
left-marked edit selector s t m error new left = record { cause = left.cause; store = left.store; rules = left.rules; texts = left.texts }

pub edited-marked : (edit : BulkEdit) (selector : Selection) (s : Store) (t : Tree) (m : List Mark) (new : Store) → IsEditedAll edit selector t (marked s m) new → IsEditedAll edit selector t s new
edited-marked edit selector s t m new made = record { allowed = made.allowed; store = made.store; names = made.names; few = made.few; ranks = made.ranks }

-- a store whose marks were taken away has marks
pub cleared-marks : (s : Store) (m : List Mark) → s.marks ≡ m → ((names : List Pair) (G : List KeyedRule) → AreMarks names G m) → HasMarks s
cleared-marks s m e none = subst (λ (x : List Mark). AreMarks s.names s.grammar.rules x) (sym e) (none s.names s.grammar.rules)

module _ (s : Store) (t : Tree) (i : IsStoreFor s t) (selector : Selection) (H : List Rule) (swept : IsSwept H) (mid : Store) (rules : rules_of mid.grammar.rules ≡ H)
    (counts : AreCounts mid.names (rules_of mid.grammar.rules) mid.counts) (index : IsIndexOf mid.grammar mid.index) (ranks : greatest_rank H ≤ greatest_rank (rules_of s.grammar.rules)) where
  swept-there : IsSwept (rules_of mid.grammar.rules)
  swept-there = subst IsSwept (sym rules) swept

  ranks-there : greatest_rank (rules_of mid.grammar.rules) ≤ greatest_rank (rules_of s.grammar.rules)
  ranks-there = subst (λ (G : List Rule). greatest_rank G ≤ greatest_rank (rules_of s.grammar.rules)) (sym rules) ranks

  -- all nodes that a selector hits were renamed
  pub all-renamed-store : (name : List ℕ) (names : List Pair) → AreRenamed (hits_in selector s) name s.names names H s.texts.texts t → AreFew (word_algebra selector) (word_downward selector) (rules_of s.grammar.rules) H
      → mid.names ≡ names → mid.texts ≡ s.texts → IsEditedAll (Renaming name) selector t s mid
  all-renamed-store name names are few named texts =
      let numbers : List ℕ = hits_in selector s in
      let stand : StandsFor (rules_of mid.grammar.rules) mid.names mid.texts.texts (edited_all (Renaming name) numbers t) =
      subst (λ (G : List Rule). StandsFor G mid.names mid.texts.texts (edited_all (Renaming name) numbers t)) (sym rules)
      (subst (λ (ns : List Pair). StandsFor H ns mid.texts.texts (edited_all (Renaming name) numbers t)) (sym named)
      (subst (λ (x : RoomyTexts). StandsFor H names x.texts (edited_all (Renaming name) numbers t)) (sym texts) are.stand)) in
      record {
        allowed = are.allowed;
        store = record { stand = stand; small = few-edited (Renaming name) numbers t i.small; swept = swept-there; counts = counts; index = index };
        names = subst (λ (ns : List Pair). Interns s.names (pairs_brought (Renaming name) numbers t) ns) (sym named) are.names;
        few = subst (λ (G : List Rule). AreFewFor (Renaming name) selector s.names (rules_of s.grammar.rules) G) (sym rules) few;
        ranks = ranks-there;
      }

  -- they were deleted
  pub all-deleted-store : (texts : RoomyTexts) → AreDeleted (hits_in selector s) s.names H texts.texts t → AreFew (word_algebra selector) (deleting_run (word_downward selector) s.names) (rules_of s.grammar.rules) H
      → mid.names ≡ s.names → IsEditedAll Deletion selector t s (record mid { texts = texts })
  all-deleted-store texts are few named =
      let numbers : List ℕ = hits_in selector s in
      let stand : StandsFor (rules_of mid.grammar.rules) mid.names texts.texts (edited_all Deletion numbers t) =
      subst (λ (G : List Rule). StandsFor G mid.names texts.texts (edited_all Deletion numbers t)) (sym rules)
      (subst (λ (ns : List Pair). StandsFor H ns texts.texts (edited_all Deletion numbers t)) (sym named) are.stand) in
      record {
        allowed = are.allowed;
        store = record { stand = stand; small = few-edited Deletion numbers t i.small; swept = swept-there; counts = counts; index = index };
        names = named;
        few = subst (λ (G : List Rule). AreFewFor Deletion selector s.names (rules_of s.grammar.rules) G) (sym rules) few;
        ranks = ranks-there;
      }

begins-none : (act : Act) (refusal : Refusal) (old : World) → IsBulkEdit act → Begins act refusal old []
begins-none (Query query) refusal old is = absurd is
begins-none (ShowAll query) refusal old is = absurd is
begins-none act refusal old is = refl

-- it reads no file
reads-none : (act : Act) (name : List ℕ) → IsBulkEdit act → file_read act ≡ Some name → ⊥
reads-none (Load name) n is reads = absurd is
reads-none (LoadGrammar name) n is reads = absurd is
reads-none (Check name) n is reads = absurd is
reads-none act n is reads = absurd cc

asks-bulk : (act : Act) (edit : BulkEdit) (query : List ℕ) → AsksBulkEdit act edit query → IsBulkEdit act
asks-bulk (RenameAll name text) edit query asked = tt
asks-bulk (DeleteAll text) edit query asked = tt
asks-bulk act edit query asked = absurd asked

-- a selector of a query that compares nothing is one of what it spells
plain-spelled : (query : List ℕ) (names : List Pair) (selector : Selection) → IsPlainSelectorOf query names selector → SpellsPlain query
plain-spelled query names selector p = (p.of.paths, p.of.spelled, p.of.within, p.plain)

module _ (act : Act) (is : IsBulkEdit act) (l : Loaded) (told : Option Told) (count : ℕ) where
  abbrev before : World
  before = world (Some (held_of l)) told count

  ready-for-all : IsReady act before
  ready-for-all = record { document = λ needs. refl; file = λ name reads. absurd (reads-none act name is reads) }

  module _ (query : List ℕ) (edits : query_edited act ≡ Some query) where
    -- the text is no query that compares nothing
    pub no-query : (refusal : Refusal) → IsNoPlainQuery refusal query → Refuses act refusal before [] before
    no-query refusal why = record {
      begins = begins-none act refusal before is;
      cause = plain_refused refusal act query (parts_of l.store) before before why edits refl;
      leaves = inl (same_world before);
    }

    -- it is one, but the name is no Name
    pub no-name : (selector : Selection) → IsPlainSelectorOf query l.store.names selector → GivesNoName act → Refuses act no.BadName before [] before
    no-name selector of none = record {
      begins = begins-none act no.BadName before is;
      cause = (inr (query, edits, ready-for-all, plain-spelled query l.store.names selector of), none);
      leaves = inl (same_world before);
    }

module _ (settings : Settings) (act : Act) (edit : BulkEdit) (query : List ℕ) (asked : AsksBulkEdit act edit query) (l : Loaded) (told : Option Told) (count : ℕ) (t : Tree) (i : IsStoreFor l.store t) (selector : Selection) (p : IsPlainSelectorOf query l.store.names selector) where
  abbrev old : World
  old = world (Some (held_of l)) told count

  abbrev chosen : List ℕ
  chosen = hits_in selector l.store

  selects : Selects query old t chosen
  selects = record {
    parts = parts_of l.store;
    held = refl;
    stand = i.stand;
    paths = p.of.paths;
    spelled = p.of.spelled;
    within = p.of.within;
    answer = p.of.selects t (value (rules_of l.store.grammar.rules)) (codes-unmarked l.store.names (meant_paths query p.of.paths) (trees.more t trees.none) (value (rules_of l.store.grammar.rules)) (plain-literals (meant_paths query p.of.paths) p.plain) i.stand.code);
  }

  abbrev wants : WantsBulkEdit act old
  wants = record { held = held_of l; tree = t; edit = edit; query = query; numbers = chosen; is = refl; asked = asked; selects = selects; plain = plain-spelled query l.store.names selector p }

  -- the edit was made of all nodes that the query selects, and the grammar settled where that was due
  pub all-done : (mid : Store) (new : Loaded) (answer : Answer) → IsEditedAll edit selector t l.store mid → IsStoreFor new.store (edited_all edit chosen t) → new.store.names ≡ mid.names
      → size (rules_of new.store.grammar.rules) ≤ size (rules_of mid.grammar.rules) → ((IsDue settings (one_more l.edits) → ⊥) → rules_of new.store.grammar.rules ≡ rules_of mid.grammar.rules)
      → greatest_rank (rules_of new.store.grammar.rules) ≤ max settings.rank (greatest_rank (rules_of mid.grammar.rules))
      → IsSettledWhereDue settings (one_more l.edits) (held_of new) (node_count (edited_all edit chosen t)) answer → EditsAll settings act old (answer_line answer) (world (Some (held_of new)) told count)
  all-done mid new answer made store same small kept ranks settled = record {
    wants = wants;
    allowed = made.allowed;
    held = held_of new;
    state = refl;
    stand = store.stand;
    names = subst (λ (ns : List Pair). Interns l.store.names (pairs_brought edit chosen t) ns) (sym same) made.names;
    made = rules_of mid.grammar.rules;
    few = record { selector = selector; selects = p.of; few = made.few };
    size = small;
    kept = kept;
    ranks = ranks-below settings.rank (greatest_rank (rules_of l.store.grammar.rules)) (greatest_rank (rules_of mid.grammar.rules)) (greatest_rank (rules_of new.store.grammar.rules)) made.ranks ranks;
    answer = answer;
    settled = settled;
    files = Stays-refl (told_files told);
    printed = refl;
  }

  abbrev after : Store → World
  after s = world (Some (held_of (record { store = s; edits = l.edits }))) told count

  -- it was refused
  pub all-refused : (s : Store) (error : BulkError) → IsLeftByAll edit selector t error l.store s → Refuses act (refusal_of_all error) old [] (after s)
  all-refused s NotAllowed r = record {
    begins = begins-none act no.NotAllowed old (asks-bulk act edit query asked);
    cause = inr (wants, r.cause.0);
    leaves = inl (record { state = held-still l s l.store.names r.cause.1 r.rules r.texts; files = Stays-refl (told_files told) });
  }
  all-refused s Memory r = record {
    begins = begins-none act no.Memory old (asks-bulk act edit query asked);
    cause = ready-for-all act (asks-bulk act edit query asked) l told count;
    leaves = elim r.cause [
      | inl same ↦ inl (record { state = held-still l s l.store.names same r.rules r.texts; files = Stays-refl (told_files told) })
      | inr grown ↦ inr (refl, inr (record { wants = wants; allowed = grown.0; names = s.names; grown = grown.1; state = held-still l s s.names refl r.rules r.texts; files = Stays-refl (told_files told) }))
    ];
  }
