-- What the words ask of the program.
use Rattle.std.specs.Prelude.{List, map, Option, option_map, String, string_bytes}
use Rattle.std.specs.declared.alloc.Global.{Global}
use Rattle.em_words.specs.Meaning.{meaning}
use Rattle.em_words.specs.Work.{work_of}
use Rattle.em_words.specs.declared.asked.Asked.{Asked}
use Rattle.em_words.specs.declared.words.Words.{Words}

-- what is asked by words of the form: what the program does, and as many workers as they say
abbrev pub asked_in : Words → Asked
asked_in words = record { work = work_of words.job words.rounds; workers = words.workers }

-- what the words behind the program's name ask for, where they are of the form
abbrev pub asked_of : List (String Global) → Option Asked
asked_of words = option_map asked_in (meaning (map string_bytes words))
