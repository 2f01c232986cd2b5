-- By the request.
use Rattle.request.proofs.carry_out.Goals as goal

pub log_level-requires : goal.log_level-requires
log_level-requires c = rw c.in-LogLevel.is at c.requires

pub sensor_list-requires : goal.sensor_list-requires
sensor_list-requires c = rw c.in-SensorList.is at c.requires

pub sensor_sampling-requires : goal.sensor_sampling-requires
sensor_sampling-requires c = rw c.in-SensorSampling.is at c.requires

pub sensor_value-requires : goal.sensor_value-requires
sensor_value-requires c = rw c.in-SensorValue.is at c.requires

pub returns-in-ClientList : goal.returns-in-ClientList
returns-in-ClientList c = rw c.in-ClientList.is c.client_list.ensures

pub returns-in-Halt : goal.returns-in-Halt
returns-in-Halt c = rw c.in-Halt.is c.halt.ensures

pub returns-in-Help : goal.returns-in-Help
returns-in-Help c = rw c.in-Help.is c.help.ensures

pub returns-in-LogLevel : goal.returns-in-LogLevel
returns-in-LogLevel c = rw c.in-LogLevel.is c.log_level.ensures

pub returns-in-Restart : goal.returns-in-Restart
returns-in-Restart c = rw c.in-Restart.is c.restart.ensures

pub returns-in-SensorList : goal.returns-in-SensorList
returns-in-SensorList c = rw c.in-SensorList.is c.sensor_list.ensures

pub returns-in-SensorSampling : goal.returns-in-SensorSampling
returns-in-SensorSampling c = rw c.in-SensorSampling.is c.sensor_sampling.ensures

pub returns-in-SensorValue : goal.returns-in-SensorValue
returns-in-SensorValue c = rw c.in-SensorValue.is c.sensor_value.ensures

pub returns-in-VersionList : goal.returns-in-VersionList
returns-in-VersionList c = rw c.in-VersionList.is c.version_list.ensures

pub returns-in-Watchdog : goal.returns-in-Watchdog
returns-in-Watchdog c = rw c.in-Watchdog.is c.watchdog.ensures
