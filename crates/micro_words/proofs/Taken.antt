-- What a parse of the command line tells: whether clap's definition takes the words, and what they then give.
--     given_by_matches     the matches hold what the definition says
--     taken                a parse that succeeds is of words that are taken
--     refused              one that fails for another cause than memory is not
use Rattle.std.proofs.Common.{◌≡◌, ◌≢◌, ◌∙◌, true, false, refl, sym, ap, inl, inr, arith, List, [], ◌∷◌, length}
use Rattle.std.proofs.lemmas.Bool.{ne_eqb}
use Rattle.std.specs.Prelude.{Ok, Err}
use Rattle.clap.specs.Walk.{Text, is_empty, rows_of}
use Rattle.clap.specs.Simple.{App, is_simple, matches_of, HasMatchesOf}
use Rattle.clap.specs.Faults.{fault_of, is_simple_and_free}
use Rattle.clap.specs.Kinds.{Kinds, FailsBy, HasKind}
use Rattle.clap.specs.Matches.{found_of}
use Rattle.clap.specs.Values.{kind_of}
use Rattle.clap.specs.declared.error.Error.{Error}
use Rattle.clap.specs.declared.error.kind.ErrorKind.TheVariants.{OutOfMemory}
use Rattle.clap.specs.declared.parser.matches.ArgMatches.{ArgMatches}
use Rattle.clap.proofs.OnLiterals.{clap_on_literals}
use Rattle.micro_words.specs.CommandLine.{command_line, given_in, given, is_taken}

line_is_simple : is_simple command_line ≡ true
unfolding clap_on_literals
line_is_simple = refl

line_is_free : is_simple_and_free command_line ≡ true
unfolding clap_on_literals
line_is_free = refl

pub given_by_matches : (app : App) (words : List Text) (m : ArgMatches) → app ≡ command_line → HasMatchesOf app words m
    → given_in (rows_of (found_of m)) ≡ given words
unfolding given
given_by_matches app words m is has =
    ap given_in ((has (ap is_simple is ∙ line_is_simple)).0 ∙ ap (λ (a : App). matches_of a words) is)

empty_kinds : (kinds : Kinds) → kinds ≡ [] → is_empty kinds ≡ true
empty_kinds kinds e = ap is_empty e

some_kind : (kinds : Kinds) (e : Error) → HasKind kinds e → kind_of e ≢ OutOfMemory → is_empty kinds ≡ false
some_kind kinds e (inl memory) other = absurd (other memory)
some_kind [] e (inr among) other = absurd among
some_kind (kind ∷ kinds) e (inr among) other = ne_eqb (length (kind ∷ kinds)) 0 (λ none. absurd (omega (arith, none)))

pub taken : (app : App) (words : List Text) (m : ArgMatches) → app ≡ command_line
    → (is_simple_and_free app ≡ true → FailsBy (fault_of app words) (Ok m)) → is_taken words ≡ true
unfolding is_taken
taken app words m is none =
    ap (λ (a : App). is_empty (fault_of a words)) (sym is)
    ∙ empty_kinds (fault_of app words) (none (ap is_simple_and_free is ∙ line_is_free))

pub refused : (app : App) (words : List Text) (e : Error) → app ≡ command_line
    → (is_simple_and_free app ≡ true → FailsBy {T = ArgMatches} (fault_of app words) (Err e)) → kind_of e ≢ OutOfMemory
    → is_taken words ≡ false
unfolding is_taken
refused app words e is some other =
    ap (λ (a : App). is_empty (fault_of a words)) (sym is)
    ∙ some_kind (fault_of app words) e (some (ap is_simple_and_free is ∙ line_is_free)) other
