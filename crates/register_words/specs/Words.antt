-- What a command of the words asks for.
use Rattle.std.specs.Prelude.{◌≡◌, ℕ}
use Rattle.register_words.specs.declared.words.GivenTask.{GivenTask}
use Rattle.register_words.specs.declared.words.Task.TheVariants.{InFile, RunInMemory}
use Rattle.register_words.specs.Values.{AreBounds, AreTerms, IsDays}
use Rattle.register_words.specs.{declared.values.Bounds.Bounds, declared.values.Terms.Terms}
use Rattle.register_words.specs.{declared.words.GivenJob.GivenJob, declared.words.Job.Job, declared.words.Task.Task}
use Rattle.register_words.specs.declared.words.GivenJob.TheVariants as given
use Rattle.register_words.specs.declared.words.GivenTask.TheVariants as task
use Rattle.register_words.specs.declared.words.Job.TheVariants as job

-- it is this job, of the values that were given
abbrev pub IsJob : GivenJob → Job → Type 0
IsJob given.Init it = it ≡ job.Init
IsJob given.Run it = it ≡ job.Run
IsJob (given.Import terms) it = (value : Terms) × AreTerms terms value × (it ≡ job.Import value)
IsJob given.Export it = it ≡ job.Export
IsJob (given.Report days) it = (value : ℕ) × IsDays days.now value × (it ≡ job.Report value)
IsJob (given.Serve bounds) it = (value : Bounds) × AreBounds bounds value × (it ≡ job.Serve value)

-- it is this task, of the values that were given
abbrev pub IsTask : GivenTask → Task → Type 0
IsTask task.RunInMemory it = it ≡ RunInMemory
IsTask (task.InFile file job) it = (value : Job) × IsJob job value × (it ≡ InFile file value)
