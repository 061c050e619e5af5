-- Where a script begins in an input, and what words ask for: literal ones.
use Rattle.std.specs.Prelude.{◌≡◌, ℕ, List, [], ◌∷◌, codes, Option, Some, None}
use Rattle.plan_text.specs.Names.{Text}
use Rattle.plan_app.specs.Input.{byte_limit, document_in, max_bytes_read, plan_length, script_in}
use Rattle.plan_app.specs.Requests.{wanted_of}
use Rattle.plan_app.specs.Words.{counted}
use Rattle.plan_app.specs.declared.request.PlantRequest.TheVariants as plant
use Rattle.plan_app.specs.declared.request.Request.{Request}
use Rattle.plan_app.specs.declared.request.Request.TheVariants.{Check, Replay, Explore, Page, Header, Module, Draw}
use Rattle.plan_app.specs.declared.request.Request.TheVariants.{Run, RunPage}
use Rattle.plan_app.specs.declared.request.Wanted.{Wanted}
use Rattle.plan_app.specs.declared.request.Wanted.TheVariants.{Help, Version, Words, ExploreWords, RunWords}
use Rattle.plan_app.specs.declared.request.Wanted.TheVariants.{Plan}

-- a document of one line, and a script of one
abbrev pub both : List ℕ
both = codes "plan\nstart,1\n"

pub record InputsAreSplit : Type 0 where
  pub document : document_in both ≡ codes "plan\n"
  pub script : script_in both ≡ codes "start,1\n"
  pub at_once : plan_length (codes "start,1\n") ≡ 0
  pub no_script : plan_length (codes "plan\n") ≡ 5
  pub empty : plan_length [] ≡ 0
  -- the first of two scripts, also where nothing comes after it
  pub first : plan_length (codes "a\nstart,\nstart,") ≡ 2
  pub bare : plan_length (codes "a\nstart,") ≡ 2
  -- only at the beginning of a line, which a line feed ends
  pub within_line : plan_length (codes "a start,1\n") ≡ 10
  pub blank_before : plan_length (codes "a\n start,\n") ≡ 10
  pub after_return : plan_length (codes "a\rstart,1\n") ≡ 10
  pub after_both : plan_length (codes "a\r\nstart,") ≡ 3
  -- only this word, and a comma
  pub no_comma : plan_length (codes "a\nstart 1\n") ≡ 10
  pub no_more : plan_length (codes "a\nstart") ≡ 7
  pub capital : plan_length (codes "a\nStart,") ≡ 8
  pub limit : byte_limit ≡ 4259840
  pub read : max_bytes_read ≡ 4259841

-- of the plan of the whole document, or of a word
abbrev pub whole : Request → Option Wanted
whole request = Some (Plan None request)

abbrev pub on : ℕ → Request → Option Wanted
on word request = Some (Plan (Some word) request)

abbrev pub asked : Text → Option Wanted
asked word = wanted_of (codes "plan" ∷ word ∷ [])

abbrev pub asked_with : Text → Text → Option Wanted
asked_with word next = wanted_of (codes "plan" ∷ word ∷ next ∷ [])

abbrev pub run_with : Text → Option Wanted
run_with number = wanted_of (codes "plan" ∷ codes "run" ∷ codes "--turns" ∷ number ∷ [])

abbrev pub memory_for : Text → Text → Option Wanted
memory_for word number = wanted_of (codes "plan" ∷ word ∷ codes "--memory" ∷ number ∷ [])

abbrev pub memory_with : Text → Text → Text → Option Wanted
memory_with word number last = wanted_of (codes "plan" ∷ word ∷ codes "--memory" ∷ number ∷ last ∷ [])

abbrev pub on_word : Text → Text → List Text → Option Wanted
on_word word number more = wanted_of (codes "plan" ∷ word ∷ codes "--word" ∷ number ∷ more)

abbrev pub run_all_with : Text → List Text → Option Wanted
run_all_with flag rest = wanted_of (codes "plan" ∷ codes "run" ∷ codes "--words" ∷ flag ∷ rest)

pub record RequestsAreRead : Type 0 where
  pub check : asked (codes "check") ≡ whole (Check 1000000)
  pub replay : asked (codes "replay") ≡ whole Replay
  pub explore : asked (codes "explore") ≡ whole (Explore 1000000)
  pub header : asked (codes "header") ≡ whole Header
  pub draw : asked (codes "draw") ≡ whole Draw
  pub python : asked_with (codes "header") (codes "--python") ≡ whole Module
  pub page : asked_with (codes "explore") (codes "--page") ≡ whole (Page 1000000)
  pub help : asked (codes "--help") ≡ Some Help
  pub help_short : asked (codes "-h") ≡ Some Help
  pub version : asked (codes "--version") ≡ Some Version
  -- whatever the program's name is
  pub named : wanted_of (codes "check" ∷ codes "replay" ∷ []) ≡ whole Replay
  -- help comes after each of its own words, and only after these
  pub help_of_check : asked_with (codes "check") (codes "--help") ≡ Some Help
  pub help_of_replay : asked_with (codes "replay") (codes "-h") ≡ Some Help
  pub help_of_explore : asked_with (codes "explore") (codes "-h") ≡ Some Help
  pub help_of_header : asked_with (codes "header") (codes "--help") ≡ Some Help
  pub help_of_draw : asked_with (codes "draw") (codes "--help") ≡ Some Help
  pub help_of_run : asked_with (codes "run") (codes "--help") ≡ Some Help
  pub help_of_other : asked_with (codes "explain") (codes "--help") ≡ None
  pub version_of_check : asked_with (codes "check") (codes "--version") ≡ None
  -- no word, or other ones
  pub no_name : wanted_of [] ≡ None
  pub no_word : wanted_of (codes "plan" ∷ []) ≡ None
  pub empty : asked [] ≡ None
  pub shorter : asked (codes "chec") ≡ None
  pub longer : asked (codes "checks") ≡ None
  pub capital : asked (codes "Check") ≡ None
  pub twice : asked_with (codes "check") (codes "check") ≡ None
  -- only a header is written for Python, by this word
  pub check_for_python : asked_with (codes "check") (codes "--python") ≡ None
  pub draw_for_python : asked_with (codes "draw") (codes "--python") ≡ None
  pub header_for_rust : asked_with (codes "header") (codes "--rust") ≡ None
  pub longer_word : asked_with (codes "header") (codes "--pythons") ≡ None
  pub python_alone : asked (codes "--python") ≡ None
  -- only what was explored has a page, by this word
  pub page_of_check : asked_with (codes "check") (codes "--page") ≡ None
  pub page_of_replay : asked_with (codes "replay") (codes "--page") ≡ None
  pub page_of_header : asked_with (codes "header") (codes "--page") ≡ None
  pub explore_for_python : asked_with (codes "explore") (codes "--python") ≡ None
  pub longer_page : asked_with (codes "explore") (codes "--pages") ≡ None
  pub page_alone : asked (codes "--page") ≡ None
  pub page_first : asked_with (codes "--page") (codes "explore") ≡ None
  pub page_twice : wanted_of (codes "plan" ∷ codes "explore" ∷ codes "--page" ∷ codes "--page" ∷ []) ≡ None
  -- of memory there are 1 to 1,000,000 megabytes, with room for 2,000 situations each
  pub memory_of_explore : memory_for (codes "explore") (codes "64") ≡ whole (Explore 128000)
  pub memory_of_check : memory_for (codes "check") (codes "1") ≡ whole (Check 2000)
  pub memory_of_page
      : wanted_of (codes "plan" ∷ codes "explore" ∷ codes "--memory" ∷ codes "500" ∷ codes "--page" ∷ [])
      ≡ whole (Page 1000000)
  pub most_memory : memory_for (codes "explore") (codes "1000000") ≡ whole (Explore 2000000000)
  pub more_memory : memory_for (codes "explore") (codes "1000001") ≡ None
  pub no_memory : memory_for (codes "check") (codes "0") ≡ None
  pub memory_of_run : memory_for (codes "run") (codes "64") ≡ None
  pub memory_of_replay : memory_for (codes "replay") (codes "64") ≡ None
  pub memory_alone : asked_with (codes "explore") (codes "--memory") ≡ None
  pub turns_of_explore
      : wanted_of (codes "plan" ∷ codes "explore" ∷ codes "--turns" ∷ codes "5" ∷ []) ≡ None
  pub page_of_check_with_memory
      : wanted_of (codes "plan" ∷ codes "check" ∷ codes "--memory" ∷ codes "5" ∷ codes "--page" ∷ []) ≡ None
  -- a run has its number of turns, from 1 to 1,000,000
  pub run_once : run_with (codes "1") ≡ whole (Run 1)
  pub run_most : run_with (codes "1000000") ≡ whole (Run 1000000)
  pub run_zeros : run_with (codes "0012") ≡ whole (Run 12)
  pub run_page : wanted_of (codes "plan" ∷ codes "run" ∷ codes "--turns" ∷ codes "12" ∷ codes "--page" ∷ [])
      ≡ whole (RunPage 12)
  pub page_before : wanted_of (codes "plan" ∷ codes "run" ∷ codes "--page" ∷ codes "--turns" ∷ codes "12" ∷ [])
      ≡ None
  pub page_of_none : wanted_of (codes "plan" ∷ codes "run" ∷ codes "--turns" ∷ codes "0" ∷ codes "--page" ∷ [])
      ≡ None
  pub page_of_turns : wanted_of (codes "plan" ∷ codes "explore" ∷ codes "--turns" ∷ codes "5" ∷ codes "--page" ∷ [])
      ≡ None
  pub run_page_alone : asked_with (codes "run") (codes "--page") ≡ None
  pub run_none : run_with (codes "0") ≡ None
  pub run_more : run_with (codes "1000001") ≡ None
  pub run_long : run_with (codes "00000001") ≡ None
  pub run_empty : run_with [] ≡ None
  pub run_signed : run_with (codes "+5") ≡ None
  pub run_alone : asked (codes "run") ≡ None
  pub run_number : asked_with (codes "run") (codes "5") ≡ None
  pub run_flag : asked_with (codes "run") (codes "--turns") ≡ None
  pub run_joined : asked_with (codes "run") (codes "--turns=5") ≡ None
  pub run_for_python : asked_with (codes "run") (codes "--python") ≡ None
  pub run_tries : wanted_of (codes "plan" ∷ codes "run" ∷ codes "--tries" ∷ codes "5" ∷ []) ≡ None
  pub run_more_words
      : wanted_of (codes "plan" ∷ codes "run" ∷ codes "--turns" ∷ codes "5" ∷ codes "5" ∷ []) ≡ None
  pub check_turns : wanted_of (codes "plan" ∷ codes "check" ∷ codes "--turns" ∷ codes "5" ∷ []) ≡ None
  pub python_twice : wanted_of (codes "plan" ∷ codes "header" ∷ codes "--python" ∷ codes "--python" ∷ []) ≡ None
  -- of all words of a plant, or of the plan of one, whose number comes directly after the word
  pub words : asked (codes "words") ≡ Some (Words plant.Listing)
  pub help_of_words : asked_with (codes "words") (codes "--help") ≡ Some Help
  pub words_on_word : on_word (codes "words") (codes "0") [] ≡ None
  pub words_with_page : asked_with (codes "words") (codes "--page") ≡ None
  pub words_twice : asked_with (codes "words") (codes "words") ≡ None
  pub word_alone : asked (codes "word") ≡ None
  pub explore_words : asked_with (codes "explore") (codes "--words") ≡ Some (ExploreWords 1000000)
  pub explore_words_with_memory
      : memory_with (codes "explore") (codes "64") (codes "--words") ≡ Some (ExploreWords 128000)
  pub explore_words_without_memory : memory_with (codes "explore") (codes "0") (codes "--words") ≡ None
  pub header_words : asked_with (codes "header") (codes "--words") ≡ Some (Words plant.Header)
  pub header_words_with_memory : memory_with (codes "header") (codes "64") (codes "--words") ≡ None
  pub header_words_for_python
      : wanted_of (codes "plan" ∷ codes "header" ∷ codes "--words" ∷ codes "--python" ∷ []) ≡ None
  pub python_of_words
      : wanted_of (codes "plan" ∷ codes "header" ∷ codes "--python" ∷ codes "--words" ∷ []) ≡ None
  pub header_of_words_on_word : on_word (codes "header") (codes "1") (codes "--words" ∷ []) ≡ None
  pub draw_words : asked_with (codes "draw") (codes "--words") ≡ Some (Words plant.Draw)
  pub draw_words_with_memory : memory_with (codes "draw") (codes "64") (codes "--words") ≡ None
  pub draw_words_twice : wanted_of (codes "plan" ∷ codes "draw" ∷ codes "--words" ∷ codes "--words" ∷ []) ≡ None
  pub draw_of_words_on_word : on_word (codes "draw") (codes "1") (codes "--words" ∷ []) ≡ None
  pub check_words : asked_with (codes "check") (codes "--words") ≡ None
  pub check_words_with_memory : memory_with (codes "check") (codes "64") (codes "--words") ≡ None
  pub run_words : wanted_of (codes "plan" ∷ codes "run" ∷ codes "--turns" ∷ codes "5" ∷ codes "--words" ∷ []) ≡ None
  pub run_all : run_all_with (codes "--turns") (codes "5" ∷ []) ≡ Some (RunWords 5)
  pub run_all_most : run_all_with (codes "--turns") (codes "1000000" ∷ []) ≡ Some (RunWords 1000000)
  pub run_all_more : run_all_with (codes "--turns") (codes "1000001" ∷ []) ≡ None
  pub run_all_none : run_all_with (codes "--turns") (codes "0" ∷ []) ≡ None
  pub run_all_page : run_all_with (codes "--turns") (codes "5" ∷ codes "--page" ∷ []) ≡ None
  pub run_all_without_number : run_all_with (codes "--turns") [] ≡ None
  pub run_all_memory : run_all_with (codes "--memory") (codes "5" ∷ []) ≡ None
  pub run_all_alone : asked_with (codes "run") (codes "--words") ≡ None
  pub run_all_on_word
      : on_word (codes "run") (codes "1") (codes "--words" ∷ codes "--turns" ∷ codes "5" ∷ []) ≡ None
  pub explore_turns
      : wanted_of (codes "plan" ∷ codes "explore" ∷ codes "--words" ∷ codes "--turns" ∷ codes "5" ∷ []) ≡ None
  pub words_words : asked_with (codes "words") (codes "--words") ≡ None
  pub words_flag_alone : asked (codes "--words") ≡ None
  pub words_flag_longer : asked_with (codes "explore") (codes "--words=1") ≡ None
  pub words_flag_twice
      : wanted_of (codes "plan" ∷ codes "explore" ∷ codes "--words" ∷ codes "--words" ∷ []) ≡ None
  pub words_before_memory
      : wanted_of (codes "plan" ∷ codes "explore" ∷ codes "--words" ∷ codes "--memory" ∷ codes "64" ∷ []) ≡ None
  pub words_with_page_of_all
      : wanted_of (codes "plan" ∷ codes "explore" ∷ codes "--words" ∷ codes "--page" ∷ []) ≡ None
  pub all_words_on_word : on_word (codes "explore") (codes "1") (codes "--words" ∷ []) ≡ None
  pub check_on_word : on_word (codes "check") (codes "2") [] ≡ on 2 (Check 1000000)
  pub check_on_first_word : on_word (codes "check") (codes "0") [] ≡ on 0 (Check 1000000)
  pub check_with_memory
      : on_word (codes "check") (codes "2") (codes "--memory" ∷ codes "100" ∷ []) ≡ on 2 (Check 200000)
  pub replay_on_word : on_word (codes "replay") (codes "1") [] ≡ on 1 Replay
  pub explore_on_word : on_word (codes "explore") (codes "1") [] ≡ on 1 (Explore 1000000)
  pub explore_page_on_word : on_word (codes "explore") (codes "0") (codes "--page" ∷ []) ≡ on 0 (Page 1000000)
  pub explore_page_with_memory
      : on_word (codes "explore") (codes "0") (codes "--memory" ∷ codes "1" ∷ codes "--page" ∷ []) ≡ on 0 (Page 2000)
  pub header_on_word : on_word (codes "header") (codes "3") [] ≡ on 3 Header
  pub python_on_word : on_word (codes "header") (codes "3") (codes "--python" ∷ []) ≡ on 3 Module
  pub draw_on_word : on_word (codes "draw") (codes "0015") [] ≡ on 15 Draw
  pub run_on_word : on_word (codes "run") (codes "1") (codes "--turns" ∷ codes "5" ∷ []) ≡ on 1 (Run 5)
  pub run_page_on_word
      : on_word (codes "run") (codes "1") (codes "--turns" ∷ codes "5" ∷ codes "--page" ∷ []) ≡ on 1 (RunPage 5)
  pub run_on_word_alone : on_word (codes "run") (codes "1") [] ≡ None
  -- a number of one to seven digits, once, and before all other flags
  pub large_word : on_word (codes "check") (codes "9999999") [] ≡ on 9999999 (Check 1000000)
  pub long_word : on_word (codes "check") (codes "00000001") [] ≡ None
  pub no_number : asked_with (codes "check") (codes "--word") ≡ None
  pub empty_number : on_word (codes "check") [] [] ≡ None
  pub signed_number : on_word (codes "check") (codes "-1") [] ≡ None
  pub named_word : on_word (codes "check") (codes "two") [] ≡ None
  pub joined_number : asked_with (codes "check") (codes "--word=2") ≡ None
  pub word_twice : on_word (codes "check") (codes "1") (codes "--word" ∷ codes "1" ∷ []) ≡ None
  pub word_last
      : wanted_of (codes "plan" ∷ codes "check" ∷ codes "--memory" ∷ codes "5" ∷ codes "--word" ∷ codes "1" ∷ [])
      ≡ None
  pub word_after_page
      : wanted_of (codes "plan" ∷ codes "explore" ∷ codes "--page" ∷ codes "--word" ∷ codes "1" ∷ []) ≡ None
  pub word_first : wanted_of (codes "plan" ∷ codes "--word" ∷ codes "1" ∷ codes "check" ∷ []) ≡ None
  pub help_on_word : on_word (codes "check") (codes "1") (codes "--help" ∷ []) ≡ None
  pub other_on_word : on_word (codes "explain") (codes "1") [] ≡ None

-- words that several texts have
pub record WordsAreMade : Type 0 where
  pub one : counted 1 (codes "place") ≡ codes "1 place"
  pub none : counted 0 (codes "zone") ≡ codes "0 zones"
  pub more : counted 11 (codes "turn") ≡ codes "11 turns"
