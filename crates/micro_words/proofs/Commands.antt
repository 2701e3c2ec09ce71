-- The command of texts and a flag, step by step.
--     no_command, no_kind, no_workers, ..    texts that are no command, by the first step that fails
--     is_command                             texts that are one
--     kept                                   the ranges of a command
use Rattle.std.proofs.Common.{◌≡◌, ◌∙◌, ◌≤◌, ℕ, Bool, true, false, cond, refl, sym, ap, subst, arith, List, [], ◌∷◌, length}
use Rattle.std.specs.Prelude.{◌==◌, Option, Some, None, option_map, option_and_then}
use Rattle.std.proofs.lemmas.Bool.{ne_eqb, eq-eqb, eqb-true}
use Rattle.clap.specs.Walk.{Text}
use Rattle.micro_words.specs.CommandLine.{Given}
use Rattle.micro_words.specs.Commands.{kind_named, text_count, files_for, number_for, cmd_for, cmd_with, cmd_named, cmd_given, has_number, file_count, IsKept}
use Rattle.micro_words.specs.Numerals.{number_up_to}
use Rattle.micro_words.specs.declared.command.CommandKind.{CommandKind}
use Rattle.micro_words.specs.declared.command.CommandKind.TheVariants.{Set, Breaks, Gen}
use Rattle.micro_words.specs.declared.command.Cmd.{Cmd}
use Rattle.micro_words.proofs.Numerals.{number_bounds}

pub no_command : (g : Given) → g.command ≡ None → None ≡ cmd_given g
unfolding cmd_given
no_command g command = rw command refl

pub no_kind : (g : Given) (name : Text) → g.command ≡ Some name → kind_named name ≡ None → None ≡ cmd_given g
unfolding cmd_given
no_kind g name command kind = rw (command, kind) refl

pub no_workers : (g : Given) (name : Text) (kind : CommandKind) → g.command ≡ Some name → kind_named name ≡ Some kind
    → g.workers ≡ None → None ≡ cmd_given g
unfolding cmd_given
no_workers g name kind command is workers = rw (command, is, workers) refl

pub bad_workers : (g : Given) (name value : Text) (kind : CommandKind) → g.command ≡ Some name
    → kind_named name ≡ Some kind → g.workers ≡ Some value → number_up_to 64 value ≡ None → None ≡ cmd_given g
unfolding cmd_given
bad_workers g name value kind command is given read = rw (command, is, given, read) refl

pub bad_count : (g : Given) (name value : Text) (kind : CommandKind) (workers : ℕ) → g.command ≡ Some name
    → kind_named name ≡ Some kind → g.workers ≡ Some value → number_up_to 64 value ≡ Some workers
    → (length g.texts ≡ text_count kind → ⊥) → None ≡ cmd_given g
unfolding cmd_given
bad_count g name value kind workers command is given read wrong =
    rw (command, is, given, read, ne_eqb (length g.texts) (text_count kind) wrong) refl

pub bad_texts : (g : Given) (name value : Text) (kind : CommandKind) (workers : ℕ) → g.command ≡ Some name
    → kind_named name ≡ Some kind → g.workers ≡ Some value → number_up_to 64 value ≡ Some workers
    → length g.texts ≡ text_count kind → number_for kind g.texts ≡ None → None ≡ cmd_given g
unfolding cmd_given
bad_texts g name value kind workers command is given read right number =
    rw (command, is, given, read, eq-eqb (length g.texts) (text_count kind) right, number) refl

pub is_command : (g : Given) (name value : Text) (kind : CommandKind) (workers number : ℕ)
    → g.command ≡ Some name → kind_named name ≡ Some kind → g.workers ≡ Some value → number_up_to 64 value ≡ Some workers
    → length g.texts ≡ text_count kind → number_for kind g.texts ≡ Some number
    → Some (record {
      command = kind;
      files = files_for kind g.texts;
      number = number;
      workers = workers;
      report = g.report;
    }) ≡ cmd_given g
unfolding cmd_given
is_command g name value kind workers number command is given read right count =
    rw (command, is, given, read, eq-eqb (length g.texts) (text_count kind) right, count) refl

-- every command takes a text
pub no_texts : (g : Given) (name value : Text) (kind : CommandKind) (workers : ℕ) → g.command ≡ Some name
    → kind_named name ≡ Some kind → g.workers ≡ Some value → number_up_to 64 value ≡ Some workers
    → g.texts ≡ [] → None ≡ cmd_given g
no_texts g name value kind workers command is given read texts =
    let none : length g.texts ≡ 0 = ap (λ (own : List Text). length own) texts in
    bad_count g name value kind workers command is given read (λ count. takes_one kind (sym none ∙ count))
  where
    takes_one : (kind : CommandKind) → 0 ≡ text_count kind → ⊥
    takes_one Set e = absurd (omega (arith, e))
    takes_one Breaks e = absurd (omega (arith, e))
    takes_one Gen e = absurd (omega (arith, e))

-- ---- the ranges of a command

-- what an optional step took and gave, where it gave something
then_inversion : {X Y : Type 0} (step : X → Option Y) (o : Option X) (y : Y) → option_and_then step o ≡ Some y
    → (x : X) × (o ≡ Some x) × (step x ≡ Some y)
then_inversion step None y e = absurd cc
then_inversion step (Some x) y e = (x, refl, e)

map_inversion : {X Y : Type 0} (f : X → Y) (o : Option X) (y : Y) → option_map f o ≡ Some y → (x : X) × (o ≡ Some x) × (f x ≡ y)
map_inversion f None y e = absurd cc
map_inversion f (Some x) y e = (x, refl, cc)

kept_number : (kind : CommandKind) (texts : List Text) (number : ℕ) → number_for kind texts ≡ Some number → has_number kind number
kept_number Set texts number e = cc
kept_number Breaks texts number e = cc
kept_number Gen [] number e = absurd cc
kept_number Gen (text ∷ rest) number e = number_bounds 20000 number text e

kept_files : (kind : CommandKind) (texts : List Text) → length texts ≡ text_count kind → length (files_for kind texts) ≡ file_count kind
kept_files Set texts e = e
kept_files Breaks texts e = e
kept_files Gen texts e = refl

kept_for : (kind : CommandKind) (texts : List Text) (workers : ℕ) (report : Bool) (cmd : Cmd) → 1 ≤ workers → workers ≤ 64
    → length texts ≡ text_count kind → cmd_for kind texts workers report ≡ Some cmd → IsKept cmd
kept_for kind texts workers report cmd some few count e =
    let made = map_inversion (λ number. record {
      command = kind;
      files = files_for kind texts;
      number = number;
      workers = workers;
      report = report;
    }) (number_for kind texts) cmd e in
    subst IsKept made.2 (record {
      some = some;
      few = few;
      number = kept_number kind texts made.0 made.1;
      files = kept_files kind texts count;
    })

kept_with : (g : Given) (kind : CommandKind) (workers : ℕ) (cmd : Cmd) → 1 ≤ workers → workers ≤ 64
    → cmd_with g kind workers ≡ Some cmd → IsKept cmd
kept_with g kind workers cmd some few e = by (length g.texts == text_count kind) refl e
  where
    by : (right : Bool) → (length g.texts == text_count kind) ≡ right
        → cond right (cmd_for kind g.texts workers g.report) None ≡ Some cmd → IsKept cmd
    by true is e = kept_for kind g.texts workers g.report cmd some few (eqb-true _ _ is) e
    by false is e = absurd cc

pub kept : (g : Given) (cmd : Cmd) → cmd_given g ≡ Some cmd → IsKept cmd
unfolding cmd_given
kept g cmd e =
    let named = then_inversion (cmd_named g) (option_and_then kind_named g.command) cmd e in
    let kind = named.0 in
    let counted = then_inversion (cmd_with g kind) (option_and_then (number_up_to 64) g.workers) cmd named.2 in
    let workers = counted.0 in
    let read = then_inversion (number_up_to 64) g.workers workers counted.1 in
    let bounds = number_bounds 64 workers read.0 read.2 in
    kept_with g kind workers cmd bounds.0 bounds.1 counted.2
