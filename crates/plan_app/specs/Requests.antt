-- What the words of the program ask for.
use Rattle.std.specs.Prelude.{◌≡◌, ℕ, ◌*◌, List, [], ◌∷◌, ◌&&◌, codes, nat_le, Option, Some, None, option_map}
use Rattle.std.specs.Prelude.{if◌then◌else◌}
use Rattle.std.specs.Bool.{then_some}
use Rattle.std.specs.Option.{option_and_then}
use Rattle.std.specs.Str.{bytes_eq}
use Rattle.csv_rows.specs.Numbers.{number_in}
use Rattle.program_shell.specs.Asked.{asked_of}
use Rattle.program_shell.specs.declared.asked.Asked.{Asked}
use Rattle.program_shell.specs.declared.asked.Asked.TheVariants as asked
use Rattle.plan_app.specs.declared.request.PlantRequest.{PlantRequest}
use Rattle.plan_app.specs.declared.request.PlantRequest.TheVariants as plant
use Rattle.plan_app.specs.declared.request.Request.{Request}
use Rattle.plan_app.specs.declared.request.Request.TheVariants.{Check, Replay, Explore, Page, Header, Module, Draw}
use Rattle.plan_app.specs.declared.request.Request.TheVariants.{Run, RunPage}
use Rattle.plan_app.specs.declared.request.Wanted.{Wanted}
use Rattle.plan_app.specs.declared.request.Wanted.TheVariants.{Help, Version, Words, ExploreWords, RunWords}
use Rattle.plan_app.specs.declared.request.Wanted.TheVariants.{Plan}

-- the words of this program alone
abbrev pub own_words : List (List ℕ)
own_words =
    codes "check" ∷ codes "replay" ∷ codes "explore" ∷ codes "header" ∷ codes "draw" ∷ codes "run"
    ∷ codes "words" ∷ []

-- how many situations are explored at most, unless it is said: what 500 megabytes hold
abbrev pub usual_most : ℕ
usual_most = 1000000

-- what each of them asks for
abbrev pub request_by : List ℕ → Option Request
request_by word =
    if bytes_eq word (codes "check") then Some (Check usual_most)
    else (if bytes_eq word (codes "replay") then Some Replay
    else (if bytes_eq word (codes "explore") then Some (Explore usual_most)
    else (if bytes_eq word (codes "header") then Some Header
    else (if bytes_eq word (codes "draw") then Some Draw
    else None))))

-- what a word asks for with a flag after it
abbrev pub request_for : List ℕ → List ℕ → Option Request
request_for word flag =
    if bytes_eq word (codes "header") && bytes_eq flag (codes "--python") then Some Module
    else (if bytes_eq word (codes "explore") && bytes_eq flag (codes "--page") then Some (Page usual_most) else None)

-- a number of turns: 1 to 1,000,000
abbrev pub turns_in : List ℕ → Option ℕ
turns_in word = option_and_then (λ n. then_some (nat_le 1 n && nat_le n 1000000) n) (number_in word)

-- the number of turns of a run, after its flag
abbrev pub turns_of_run : List ℕ → List ℕ → List ℕ → Option ℕ
turns_of_run word flag number =
    if bytes_eq word (codes "run") && bytes_eq flag (codes "--turns") then turns_in number else None

-- a number of megabytes, 1 to 1,000,000, by how many situations they hold: 2,000 each
abbrev pub situations_in : List ℕ → Option ℕ
situations_in word = option_and_then (λ n. then_some (nat_le 1 n && nat_le n 1000000) (n * 2000)) (number_in word)

-- how many situations are explored at most, after its flag
abbrev pub most_after : List ℕ → List ℕ → Option ℕ
most_after flag number = if bytes_eq flag (codes "--memory") then situations_in number else None

-- what a word asks for with a number after a flag, and with another flag after that
abbrev pub request_of_number : List ℕ → List ℕ → List ℕ → Option Request
request_of_number word flag number =
    if bytes_eq word (codes "check") then option_map Check (most_after flag number)
    else (if bytes_eq word (codes "explore") then option_map Explore (most_after flag number)
    else option_map Run (turns_of_run word flag number))

abbrev pub page_of_number : List ℕ → List ℕ → List ℕ → Option Request
page_of_number word flag number =
    if bytes_eq word (codes "explore") then option_map Page (most_after flag number)
    else option_map RunPage (turns_of_run word flag number)

abbrev pub request_of_page : List ℕ → List ℕ → List ℕ → List ℕ → Option Request
request_of_page word flag number last =
    if bytes_eq last (codes "--page") then page_of_number word flag number else None

-- what a word asks of a plan, with any words after it
abbrev pub request_after : List ℕ → List (List ℕ) → Option Request
request_after word [] = request_by word
request_after word (flag ∷ []) = request_for word flag
request_after word (flag ∷ number ∷ []) = request_of_number word flag number
request_after word (flag ∷ number ∷ last ∷ []) = request_of_page word flag number last
request_after word _ = None

-- ---- and of which plan: of the whole document, or of the word with a number

abbrev pub of_document : Option Request → Option Wanted
of_document request = option_map (Plan None) request

abbrev pub wanted_on : List ℕ → Option Request → Option Wanted
wanted_on number request = option_and_then (λ n. option_map (Plan (Some n)) request) (number_in number)

-- or of all words together, of an exploration, a header or a picture: `--words` comes last; of a run, before the turns
abbrev pub wanted_for : List ℕ → List ℕ → Option Wanted
wanted_for word flag =
    if bytes_eq word (codes "explore") && bytes_eq flag (codes "--words") then Some (ExploreWords usual_most)
    else (if bytes_eq word (codes "header") && bytes_eq flag (codes "--words") then Some (Words plant.Header)
    else (if bytes_eq word (codes "draw") && bytes_eq flag (codes "--words") then Some (Words plant.Draw)
    else of_document (request_for word flag)))

abbrev pub words_with : List ℕ → List ℕ → List (List ℕ) → Option Wanted
words_with word flag (number ∷ []) = option_map RunWords (turns_of_run word flag number)
words_with word flag _ = None

abbrev pub words_of_number : List ℕ → List ℕ → List ℕ → Option Wanted
words_of_number word flag number =
    if bytes_eq word (codes "explore") then option_map ExploreWords (most_after flag number) else None

abbrev pub wanted_by_last : List ℕ → List ℕ → List ℕ → List ℕ → Option Wanted
wanted_by_last word flag number last =
    if bytes_eq last (codes "--words") then words_of_number word flag number
    else of_document (request_of_page word flag number last)

abbrev pub wanted_by_number : List ℕ → List ℕ → List ℕ → List (List ℕ) → Option Wanted
wanted_by_number word flag number [] = of_document (request_of_number word flag number)
wanted_by_number word flag number (last ∷ []) = wanted_by_last word flag number last
wanted_by_number word flag number _ = None

-- `--word K` comes directly after the word
abbrev pub wanted_with : List ℕ → List ℕ → List ℕ → List (List ℕ) → Option Wanted
wanted_with word flag number more =
    if bytes_eq flag (codes "--word") then wanted_on number (request_after word more)
    else (if bytes_eq flag (codes "--words") then words_with word number more
    else wanted_by_number word flag number more)

abbrev pub wanted_alone : List ℕ → Option Wanted
wanted_alone word =
    if bytes_eq word (codes "words") then Some (Words plant.Listing) else of_document (request_by word)

abbrev pub wanted_after : List ℕ → List (List ℕ) → Option Wanted
wanted_after word [] = wanted_alone word
wanted_after word (flag ∷ []) = wanted_for word flag
wanted_after word (flag ∷ number ∷ more) = wanted_with word flag number more

-- the first is the program's name
abbrev pub wanted_by : List (List ℕ) → Option Wanted
wanted_by (name ∷ word ∷ rest) = wanted_after word rest
wanted_by _ = None

-- what words ask for, by what they ask for of every program
abbrev pub wanted_asked : Asked → List (List ℕ) → Option Wanted
wanted_asked asked.Help words = Some Help
wanted_asked asked.Version words = Some Version
wanted_asked asked.Other words = wanted_by words

abbrev pub wanted_of : List (List ℕ) → Option Wanted
wanted_of words = wanted_asked (asked_of own_words words) words

-- words ask this of the plan of the document, or of that of one word
abbrev pub Ask : List (List ℕ) → Option ℕ → Request → Type 0
Ask words word request = wanted_of words ≡ Some (Plan word request)

-- or this of all words of a plant
abbrev pub AskWords : List (List ℕ) → PlantRequest → Type 0
AskWords words request = wanted_of words ≡ Some (Words request)
